-- Typing an expression adds no set type: which of the types are set types stays, whatever it answers.
use Rattle.std.proofs.Common.{◌≡◌, ℕ, zero, suc, Bool, true, List, [], ◌∷◌, ◌++◌, Option, Some, Ok, refl, ◌∙◌}
use Rattle.std.proofs.lemmas.Result.{IfOk-at_ok}
use Rattle.place.specs.declared.Place.{Place}
use Rattle.syntax_tree.specs.declared.Expr.{Expr}
use Rattle.types.specs.Forms.{Form, Set}
use Rattle.types.specs.Types.{form_kind, kind_of}
use Rattle.typed_tree.specs.declared.site.SiteKind.{SiteKind}
use Rattle.typed_tree.specs.declared.tree.Scalar.TheVariants as scalar
use Rattle.typed_tree.specs.Look.{Look}
use Rattle.typing_rules.specs.declared.typed.Typed.{Typed}
use Rattle.typing.specs.Expressions.{expression}
use Rattle.typing.specs.Passing.{Passed, Passing, after}
use Rattle.typing.specs.Steps.{site}
use Rattle.typing.proofs.WalkedForms.{expression_walks}
use Rattle.typing.proofs.Ways.{Nobody, IsNoSet, Step, Way, Stay, One, Then, Controlled, Assigned, Walks, site_walks}
use Rattle.typing.proofs.Ways as ways
use Rattle.expression_resolver.specs.Values.{AreTestedAlike, tested_as}

no_set_tested : (form : Form) → IsNoSet form → tested_as (Some (form_kind form)) ≡ scalar.Ordinal
no_set_tested (Set packed host first last) no_set = absurd no_set
no_set_tested other no_set = refl

more_types : (types : List Form) (form : Form) → IsNoSet form → (n : ℕ)
    → tested_as (kind_of (types ++ form ∷ []) (record { index = n })) ≡ tested_as (kind_of types (record { index = n }))
more_types [] form no_set zero = no_set_tested form no_set
more_types [] form no_set (suc n) = refl
more_types (first ∷ types) form no_set zero = refl
more_types (first ∷ types) form no_set (suc n) = more_types types form no_set n

step_alike : {acts : Bool} {from to : ℕ} {look : Look} {old new : Passed} → Step acts Nobody from to look old new → AreTestedAlike old.types new.types
step_alike {old = old} (ways.Typed form no_set) = λ id. more_types old.types form no_set id.index
step_alike other = λ id. refl

way_alike : {acts : Bool} {from to : ℕ} {look : Look} {old new : Passed} → Way acts Nobody from to look old new → AreTestedAlike old.types new.types
way_alike Stay = λ id. refl
way_alike (One step) = step_alike step
way_alike (Then first second) = λ id. way_alike second id ∙ way_alike first id
way_alike (Controlled root way) = way_alike way
way_alike (Assigned root way told) = way_alike way

-- behind what goes a way on which no names are defined
pub walked_alike : {A : Type 0} {p : Passing A} → Walks (Way true Nobody 0 0) p → (answer : A) (look : Look) (old new : Passed)
    → p old ≡ Ok (after answer look new) → AreTestedAlike old.types new.types
walked_alike walks answer look old new passes =
    way_alike (IfOk-at_ok (λ a. Way true Nobody 0 0 a.look old a.passed) passes (walks.walks old))

-- behind an expression
pub tested_alike : (w : Expr) (lead : Option SiteKind) (answer : Typed) (look : Look) (old new : Passed)
    → (expression w).typing lead old ≡ Ok (after answer look new) → AreTestedAlike old.types new.types
tested_alike w lead = walked_alike ((expression_walks Nobody 0 w).typing lead)

-- and behind a site
pub site_alike : (kind : SiteKind) (place : Place) (id : ℕ) (old new : Passed) → site kind place old ≡ Ok (after id [] new)
    → AreTestedAlike old.types new.types
site_alike kind place id = walked_alike (site_walks kind place) id []
