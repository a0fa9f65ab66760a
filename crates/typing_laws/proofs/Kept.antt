-- What may be changed in a block: a variable of its own, or one that other blocks are known to threaten.
use Rattle.std.proofs.Common.{◌≡◌, ℕ, Bool, true, false, ◌||◌, nat_eq, List, [], ◌∷◌, ◌++◌, Some, slice_get}
use Rattle.std.specs.List.{flat_map}
use Rattle.typed_tree.specs.declared.tree.Variable.{Variable}
use Rattle.typed_tree.specs.Look.{Look}
use Rattle.typing_laws.specs.Controls.{Each, mark_changes, mark_controls}
use Rattle.typing_laws.proofs.Owned.{Fails}
use Rattle.typing_laws.proofs.Reached.{Reached, IsFurther, Here, is_round_here, get_longer}

-- ---- what holds of each

pub each_append : {A : Type 0} (Holds : A → Type 0) (xs ys : List A) → Each Holds xs → Each Holds ys → Each Holds (xs ++ ys)
each_append Holds [] ys one two = two
each_append Holds (x ∷ xs) ys one two = (one.0, each_append Holds xs ys one.1 two)

pub each_more : {A : Type 0} (Holds More : A → Type 0) (xs : List A) → ((x : A) → Holds x → More x) → Each Holds xs → Each More xs
each_more Holds More [] more all = tt
each_more Holds More (x ∷ xs) more all = (more x all.0, each_more Holds More xs more all.1)

-- ---- changes

-- a variable that a block may change
pub record MayChange (here : Here) (now : Reached) (root : ℕ) : Type 0 where
  pub variable : Variable
  pub is_there : slice_get now.variables root ≡ Some variable
  pub is_visible : is_round_here here variable.block ≡ true
  pub may : (nat_eq variable.block here.block || now.threatens root) ≡ true
  pub apart : now.apart root ≡ true

-- one that controls a for statement of the block
pub record MayControl (here : Here) (now : Reached) (root : ℕ) : Type 0 where
  pub variable : Variable
  pub is_there : slice_get now.variables root ≡ Some variable
  pub own : nat_eq variable.block here.block ≡ true
  pub free : Fails (now.threatens root)

or_later : (own old new : Bool) → (old ≡ true → new ≡ true) → (own || old) ≡ true → (own || new) ≡ true
or_later true old new more is = is
or_later false old new more is = more is

pub change_later : (here : Here) (now next : Reached) (root : ℕ) → IsFurther now next → MayChange here now root → MayChange here next root
change_later here now next root more m = record {
  variable = m.variable;
  is_there = get_longer more.variables root m.variable m.is_there;
  is_visible = m.is_visible;
  may = or_later (nat_eq m.variable.block here.block) (now.threatens root) (next.threatens root) (more.threats root) m.may;
  apart = more.apart root m.apart;
}

-- what forms change, and what controls for statements
abbrev pub changes_of : Look → List ℕ
changes_of = flat_map mark_changes

abbrev pub controls_of : Look → List ℕ
controls_of = flat_map mark_controls
