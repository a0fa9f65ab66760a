-- What was put behind others, or in a box: where it is there a rule read it, and where it isn't, the rule stopped or
-- memory ran out.
use Rattle.std.proofs.Common.{◌≡◌, List, [], ◌∷◌, ◌++◌, Result, Ok, Err, sym, ap, subst, ◌∙◌}
use Rattle.std.specs.declared.alloc.Global.{Global}
use Rattle.std.specs.declared.boxed.Box.{Box}
use Rattle.memory.specs.Refused.{the_refusal}
use Rattle.reading.specs.declared.refusal.Refusal.{Refusal}
use Rattle.reading.specs.declared.refusal.Refusal.TheVariants.{Memory}
use Rattle.lexer.specs.declared.token.Kind.{Kind}
use Rattle.lexer.specs.declared.token.Token.{Token}
use Rattle.place.specs.declared.Place.{Place}
use Rattle.reading.specs.Reading.{Outcome, and_then, pure, ◌>>◌, expect}
use Rattle.token_cursor.specs.declared.cursor.Cursor.{Cursor}
use Rattle.token_cursor.specs.Cursor.{IsFollowed, Makes}
use Rattle.token_cursor.specs.Kept.{Puts, Boxes}

-- what was put behind others was read
pub record WasPut {A T : Type 0} (look : T → A) (outcome : Outcome A) (new : Cursor) (before after : List T) : Type 0 where
  pub made : T
  pub read : outcome ≡ Ok (look made, new.rest.now)
  pub behind : after ≡ before ++ made ∷ []

pub was_put : {A T : Type 0} (look : T → A) (outcome : Outcome A) (found : Result T Refusal) (new : Cursor) (before after : List T)
    → Makes look outcome found new → Puts before found (Ok tt) after → WasPut look outcome new before after
was_put look outcome (Ok made) new before after h p = record { made = made; read = h; behind = p }
was_put look outcome (Err why) new before after h p = absurd p

pub not_put : {A T : Type 0} (look : T → A) (outcome : Outcome A) (found : Result T Refusal) (new : Cursor) (before after : List T) (why : Refusal)
    → Makes look outcome found new → Puts before found (Err why) after → (¬ (why ≡ Memory the_refusal)) → outcome ≡ Err (why, new.rest.now)
not_put {A} {T} look outcome (Ok made) new before after why h p m = let e : ◌≡◌ {A = Result T Refusal} (Ok made) (Err why) = p m in absurd cc
not_put {A} {T} look outcome (Err other) new before after why h p m =
    let e : ◌≡◌ {A = Result T Refusal} (Err other) (Err why) = p m in let is : other ≡ why = cc in
    h (λ o. m (sym is ∙ o)) ∙ ap (λ w. Err (w, new.rest.now)) is

-- so was what is in a box
pub boxed_makes : {A T : Type 0} (look : T → A) (outcome : Outcome A) (found : Result T Refusal) (new : Cursor) (result : Result (Box T Global) Refusal)
    → Makes look outcome found new → Boxes found result → Makes (λ box. look box.value) outcome result new
boxed_makes {A} {T} look outcome (Ok made) new (Ok box) h b = h ∙ ap (λ x. Ok (look x, new.rest.now)) (sym b)
boxed_makes {A} {T} look outcome (Err why) new (Ok box) h b = absurd b
boxed_makes {A} {T} look outcome (Ok made) new (Err why) h b = λ m. let e : ◌≡◌ {A = Result T Refusal} (Ok made) (Err why) = b m in absurd cc
boxed_makes {A} {T} look outcome (Err other) new (Err why) h b = λ m.
    let e : ◌≡◌ {A = Result T Refusal} (Err other) (Err why) = b m in let is : other ≡ why = cc in
    h (λ o. m (sym is ∙ o)) ∙ ap (λ w. Err (w, new.rest.now)) is

-- what a token stands behind was read, and then the token
module _ {A T : Type 0} (look : T → A) (made : T) (new : Cursor) where
  stops_so : (next : Outcome Place) (why : Refusal) → and_then next (λ _. pure made) ≡ Err (why, new.rest.now)
      → and_then next (λ _. pure (look made)) ≡ Err (why, new.rest.now)
  stops_so (Ok place) why e = absurd cc
  stops_so (Err stop) why e = let is : stop ≡ (why, new.rest.now) = cc in ap Err is

  made_so : (next : Outcome Place) (result : Result T Refusal) → Makes (λ same. same) (and_then next (λ _. pure made)) result new
      → Makes look (and_then next (λ _. pure (look made))) result new
  made_so (Ok place) (Ok same) e = let is : (made, place.1) ≡ (same, new.rest.now) = cc in ap (λ (m : T × List Token). Ok (look m.0, m.1)) is
  made_so (Err stop) (Ok same) e = absurd cc
  made_so next (Err why) e = λ m. stops_so next why (e m)

pub followed_makes : {A T : Type 0} (look : T → A) (outcome : Outcome A) (found result : Result T Refusal) (kind : Kind) (old new : Cursor)
    → Makes look outcome found old → IsFollowed found kind old result new → Makes look (and_then outcome (λ a. expect kind >> pure a)) result new
followed_makes look outcome (Ok made) result kind old new h f =
    subst (λ o. Makes look (and_then o (λ a. expect kind >> pure a)) result new) (sym h) (made_so look made new (expect kind old.rest.now) result f)
followed_makes look outcome (Err why) result kind old new h (is, same) =
    subst (λ r. Makes look (and_then outcome (λ a. expect kind >> pure a)) r new) (sym is)
    (λ m. ap (λ o. and_then o (λ a. expect kind >> pure a)) (h m) ∙ ap (λ (c : Cursor). Err (why, c.rest.now)) (sym same))
