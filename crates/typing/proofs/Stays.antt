-- What typing leaves as it was, whatever it opens and closes on its way: the names that the innermost region knows, and the
-- regions round it. Among definitions the block round the place stays too, but for its cells.
use Rattle.std.proofs.Common.{◌≡◌, ℕ, zero, suc, Bool, true, false, if◌then◌else◌, List, [], ◌∷◌, Ok, Err, refl, sym, ap, subst, ◌∙◌}
use Rattle.std.proofs.lemmas.Result.{IfOk-at_ok}
use Rattle.scopes.specs.Scopes.{Region, Knows, define, outer}
use Rattle.scopes.specs.declared.denotation.Denotation.{Denotation}
use Rattle.scopes.specs.declared.fault.ScopeFault.{ScopeFault}
use Rattle.scopes.proofs.Known.{define_keeps}
use Rattle.typed_tree.specs.Look.{Look}
use Rattle.typing.specs.Passing.{Enclosing, Passed, Passing, after}
use Rattle.typing.proofs.Ways.{Owner, Of, Step, Token, Define, Way, Stay, One, Then, Controlled, Assigned, Walks}

-- the regions that were open before so many were opened
abbrev round_all : ℕ → List Region → List Region
round_all zero regions = regions
round_all (suc depth) regions = round_all depth (outer regions)

record Keeps (from to : ℕ) (old new : Passed) : Type 0 where
  known : (name : List ℕ) → Knows (round_all from old.regions) name → Knows (round_all to new.regions) name
  round : outer (round_all to new.regions) ≡ outer (round_all from old.regions)

all_kept : {depth : ℕ} {old new : Passed} → round_all depth new.regions ≡ round_all depth old.regions → Keeps depth depth old new
all_kept is = record { known = λ name known. subst (λ rs. Knows rs name) (sym is) known; round = ap outer is }

defined_round : (regions : List Region) (name : List ℕ) (denotation : Denotation) (new : List Region) → define name denotation regions ≡ Ok new
    → outer new ≡ outer regions
defined_round [] name denotation new is = absurd cc
defined_round (region ∷ regions) name denotation new is = by _ _ _ is
  where
    by : (test : Bool) (why : ScopeFault) (made : Region) → (if test then Err why else Ok (made ∷ regions)) ≡ Ok new → outer new ≡ regions
    by true why made h = absurd cc
    by false why made h = let same : made ∷ regions ≡ new = cc in ap outer (sym same)

-- only the innermost region knows more
defined_keeps : (depth : ℕ) (old : Passed) (name : List ℕ) (denotation : Denotation) (regions : List Region) → define name denotation old.regions ≡ Ok regions
    → Keeps depth depth old (record old { regions = regions })
defined_keeps zero old name denotation regions is = record {
  known = λ other known. IfOk-at_ok (λ made. Knows made other) is (define_keeps old.regions name denotation other known);
  round = defined_round old.regions name denotation regions is;
}
defined_keeps (suc depth) old name denotation regions is = all_kept (ap (round_all depth) (defined_round old.regions name denotation regions is))

step_keeps : {acts : Bool} {owner : Owner} {from to : ℕ} {look : Look} {old new : Passed} → Step acts owner from to look old new → Keeps from to old new
step_keeps {from = from} {old = old} (Define name denotation regions defines is) = defined_keeps from old name denotation regions is
step_keeps step = record { known = λ name known. known; round = refl }

way_keeps : {acts : Bool} {owner : Owner} {from to : ℕ} {look : Look} {old new : Passed} → Way acts owner from to look old new → Keeps from to old new
way_keeps Stay = all_kept refl
way_keeps (One step) = step_keeps step
way_keeps (Then first second) =
    let f = way_keeps first in
    let g = way_keeps second in
    record { known = λ name known. g.known name (f.known name known); round = g.round ∙ f.round }
way_keeps (Assigned root way told) = let f = way_keeps way in record { known = f.known; round = f.round }
way_keeps (Controlled root way) = let f = way_keeps way in record { known = f.known; round = f.round }

pub record Stays (old new : Passed) : Type 0 where
  pub known : (name : List ℕ) → Knows old.regions name → Knows new.regions name
  pub round : outer new.regions ≡ outer old.regions

-- behind what passes
pub stays : {acts : Bool} {owner : Owner} {A : Type 0} (p : Passing A) → Walks (Way acts owner 0 0) p → (answer : A) (look : Look) (old new : Passed)
    → p old ≡ Ok (after answer look new) → Stays old new
stays {acts = acts} {owner = owner} p walks answer look old new passes =
    let k = way_keeps (IfOk-at_ok (λ a. Way acts owner 0 0 a.look old a.passed) passes (walks.walks old)) in
    record { known = k.known; round = k.round }

abbrev SameBlock : Enclosing → Enclosing → Type 0
SameBlock old new = record new { cells = 0 } ≡ record old { cells = 0 }

-- among definitions
step_in : {acts : Bool} {number from to : ℕ} {look : Look} {old new : Passed} → Step acts (Of number) from to look old new
    → SameBlock old.enclosing new.enclosing
step_in (Token place) = refl
step_in other = refl

way_in : {acts : Bool} {number from to : ℕ} {look : Look} {old new : Passed} → Way acts (Of number) from to look old new
    → SameBlock old.enclosing new.enclosing
way_in Stay = refl
way_in (One step) = step_in step
way_in (Then first second) = way_in second ∙ way_in first
way_in (Controlled root way) = way_in way
way_in (Assigned root way told) = way_in way

pub same_block : {acts : Bool} {number : ℕ} {A : Type 0} (p : Passing A) → Walks (Way acts (Of number) 0 0) p → (answer : A) (look : Look) (old new : Passed)
    → p old ≡ Ok (after answer look new) → SameBlock old.enclosing new.enclosing
same_block {acts = acts} {number = number} p walks answer look old new passes =
    way_in (IfOk-at_ok (λ a. Way acts (Of number) 0 0 a.look old a.passed) passes (walks.walks old))
