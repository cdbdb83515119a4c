-- The byte that is stored for whether the tokens match.
use Rattle.matching_alone.proofs.Entries.{byte_told}
use Rattle.matching_alone.proofs.list_entry.Goals as goal

pub returns : goal.returns
returns c = λ t. byte_told c.tokens_match.result (rw c.text-text.ensures.holds at (c.tokens_match.ensures t))
