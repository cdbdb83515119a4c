-- What is printed for a file is fixed by the file.
use Prim.Native.Nat.{ℕ}
use mathlib.Core.Path.{◌≡◌, sym, ◌∙◌, ap, ap₂, subst}
use mathlib.Core.List.{List}
use Rattle.tables.specs.Tables.{Tables}
use Rattle.job.specs.Reported.{refusal_text}
use Rattle.job.proofs.Limits.{not_wrong}
use Rattle.relaxng.specs.Matching.{ListsMatches}
use Rattle.relaxng.proofs.Same.{same_answer}
use Rattle.report.specs.Report.{list_room, work_room, answer_text, Reports, not_read, answered}

pub one_report : {file x y : List ℕ} → Reports file x → Reports file y → x ≡ y
one_report (not_read n e f) (not_read m g h) = let z : n ≡ m = cc (sym e ∙ g) in f ∙ ap (refusal_text 13) z ∙ sym h
one_report (not_read n e f) (answered t l c r g p h) = absurd (not_wrong (sym e ∙ g))
one_report (answered t l c r e p f) (not_read m g h) = absurd (not_wrong (sym g ∙ e))
one_report (answered t l c r e p f) (answered u m d q g k h) =
    let z : t ≡ u = cc (sym e ∙ g) in
    let s = same_answer r q (subst (λ (v : Tables). ListsMatches v list_room work_room l c r) z p) k in
    f ∙ ap₂ answer_text s.0 s.1 ∙ sym h
