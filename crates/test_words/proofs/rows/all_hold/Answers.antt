use Rattle.std.proofs.Common.{◌≡◌, ◌∙◌, refl, sym, subst, ℕ, arith, Bool, true, false, not, true≢false, List, Result, Ok, String, string_bytes, Bor}
use Rattle.std.specs.Str.{bytes_eq}
use Rattle.std.specs.declared.alloc.Global.{Global}
use Rattle.std.proofs.lemmas.Slice.Eq.{bytes_eq-Decides}
use Rattle.std.proofs.lemmas.List.Elements.{AllWithin-more, at_read}
use Rattle.test_words.specs.Rows.{GivesText}
use Rattle.test_words.proofs.rows.all_hold.Goals as goal

-- a call at a reference that answered with this text gave it
gave :
    {Row E : Type 0} (post : Bor Row → Result (String Global) E → Type 0) (shown : Bor Row)
    (answer : Result (String Global) E) (text : String Global) (bytes : List ℕ) →
    post shown answer → answer ≡ Ok text → string_bytes text ≡ bytes → GivesText post shown.now bytes
gave post shown answer text bytes met was same = (shown, text, refl, subst (post shown) was met, same)

-- texts that don't differ are the same
same_text : (found wanted : List ℕ) (differ same : Bool) → bytes_eq found wanted ≡ same → differ ≡ not same → differ ≡ false → found ≡ wanted
same_text found wanted differ true is told alike = (bytes_eq-Decides found wanted).0 is
same_text found wanted differ false is told alike = absurd (true≢false (sym told ∙ alike))

-- the row of this turn gave its text, too
pub loop-number-preserved : goal.loop-number-preserved
loop-number-preserved g c =
    let post = goal.F-post g c.args.told c.args.alloc in
    let gives = λ (row : g.row.Row.Denot × Bor (List ℕ)). GivesText post row.0 row.1.now in
    let rows = c.args.rows.now in
    let index = c.loop-number.number-counter in
    let row = c.index-rows-number.result in
    let text = c.in_ok-found.found in
    record {
      callable = c.loop-number.invariant.callable;
      given =
          AllWithin-more gives rows 0 index c.loop-number.invariant.given
          (at_read rows gives index row (omega arith) c.index-rows-number.is
          (gave post _ c.told.result text row.1.now c.told.ensures c.in_ok-found.was
          (sym c.as_str.ensures.value ∙ same_text c.as_str.result.now row.1.now c.ne.result _ refl c.ne.ensures c.if-ne.false)));
    }

-- all rows were taken
pub returns : goal.returns
returns g c = λ k d h. c.loop-number.invariant.given k d (omega arith) (omega arith)
