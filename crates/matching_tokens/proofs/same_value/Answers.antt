-- A token has no whitespace: it is one value of token with a text whose one token it is.
use Prim.Native.Nat.{ℕ, ◌+◌, ◌*◌}
use mathlib.Core.Path.{◌≡◌, refl, ◌∙◌, subst}
use mathlib.Core.List.{List}
use lib.ListN.{get_or}
use Rattle.tables.specs.Answers.{Decides}
use Rattle.tables.specs.Place.{between}
use Rattle.tables.specs.Tables.{string_table}
use Rattle.strings.specs.Strings.{text_of}
use Rattle.matching_tokens.proofs.Places.{texts_told, by_string, by_token}
use Rattle.matching_tokens.proofs.same_value.Goals as goal

pub returns-then-datatype-eq0 : goal.returns-then-datatype-eq0
returns-then-datatype-eq0 c =
    let a = c.args in
    by_string a.datatype a.token.now _ c.eq.result c.if-datatype-eq0.true
    (subst (λ (own : List ℕ). Decides (a.token.now ≡ own) c.eq.result)
    c.text-own.ensures.holds (texts_told _ _ _ c.eq.ensures))

pub returns : goal.returns
returns c =
    let a = c.args in
    let v = text_of (string_table a.bytes.now a.ends.now) a.v in
    let own : c.text-own.result.now ≡ v = c.text-own.ensures.holds in
    let from = get_or a.places.now (a.v * 2) 0 in
    let to = get_or a.places.now (a.v * 2 + 1) 0 in
    let one : c.part.result.now ≡ between v from to = c.part.ensures.holds
    ∙ rw (own, c.at-from.ensures, c.at-to.ensures) refl in
    by_token a.datatype v from to c.eq-2.result c.if-datatype-eq0.false c.requires.1 (c.requires.0 a.v)
    (subst (λ (p : List ℕ). Decides (p ≡ a.token.now) c.eq-2.result) one (texts_told _ _ _ c.eq-2.ensures))
