-- Steps among declarations: they add no site and no entry, and leave what is known of other blocks as it is.
use Rattle.std.proofs.Common.{◌≡◌, ℕ, Bool, false, List, [], ◌∷◌, length, Ok, refl, sym, ap, subst, ◌∙◌}
use Rattle.place.specs.declared.Place.{Place}
use Rattle.types.specs.Forms.{Form}
use Rattle.scopes.specs.Scopes.{Region, outer}
use Rattle.typed_tree.specs.declared.tree.Variable.{Variable}
use Rattle.typing.specs.Passing.{Enclosing, Passed, After, Passing, after, behind_marks, pure, each, ◌>>=◌, ◌>>?◌}
use Rattle.typing_rules.specs.Checked.{Checked, and_then}
use Rattle.typing.proofs.Ways.{Of, Way, Stay, Then}
use Rattle.typing_laws.proofs.Owned.{cells_of_block, block_cells_longer}
use Rattle.typing_laws.proofs.Reached.{IsLonger, as_long, Head, Here}
use Rattle.typing_laws.proofs.Ready.{Base, base_types}
use Rattle.typing_laws.proofs.Sound.{AreSound, inside_itself, regions_later}
use Rattle.typing_laws.proofs.Steps.{split, split_behind}
use Rattle.typing_laws.proofs.Tables.{AreLawful, AreTexts}
use Rattle.typing_laws.proofs.Went.{grows, silent}

-- ---- what is known

-- where names denote variables of a list, and routines by these heads; regions stand under the innermost one
pub record Ready (here : Here) (under : List Region) (counted : ℕ) (heads : List Head) (bound : List Variable) (s : Passed) : Type 0 where
  pub sound : AreSound here bound s.types heads s.regions
  pub under_it : outer s.regions ≡ under
  pub base : Base s.types s.variables s.headings (length heads)
  pub texts : AreTexts s.texts
  pub cells : s.enclosing.cells ≡ cells_of_block s.types counted s.variables

module _ {here : Here} {under : List Region} {counted : ℕ} {heads : List Head} where
  -- other regions
  pub ready_regions : {bound now : List Variable} {s : Passed} (regions : List Region) → AreSound here now s.types heads regions → outer regions ≡ under
      → Ready here under counted heads bound s → Ready here under counted heads now (record s { regions = regions })
  ready_regions regions sound below r = record {
    sound = sound;
    under_it = below;
    base = r.base;
    texts = r.texts;
    cells = r.cells;
  }

  -- another latest token
  pub ready_latest : {bound : List Variable} {s : Passed} (place : Place) → Ready here under counted heads bound s
      → Ready here under counted heads bound (record s { latest = place })
  ready_latest place r = record {
    sound = r.sound;
    under_it = r.under_it;
    base = r.base;
    texts = r.texts;
    cells = r.cells;
  }

  -- other files
  pub ready_files : {bound : List Variable} {s : Passed} (input output : Bool) → Ready here under counted heads bound s
      → Ready here under counted heads bound (record s { has_input = input; has_output = output })
  ready_files input output r = record {
    sound = r.sound;
    under_it = r.under_it;
    base = r.base;
    texts = r.texts;
    cells = r.cells;
  }

  -- more types
  pub ready_types : {bound : List Variable} {s : Passed} (types : List Form) → IsLonger s.types types → AreLawful types
      → Ready here under counted heads bound s → Ready here under counted heads bound (record s { types = types })
  ready_types {bound} {s} types longer lawful r = record {
    sound = regions_later inside_itself as_long longer as_long s.regions r.sound;
    under_it = r.under_it;
    base = base_types s.types types s.variables s.headings (length heads) longer lawful r.base;
    texts = r.texts;
    cells = r.cells ∙ sym (block_cells_longer longer counted s.variables r.base.have_types);
  }

-- ---- steps

-- a way that defines names, and variables of a block, and leaves no mark; behind it this is so
abbrev pub Kept : {A : Type 0} → ℕ → Passed → (A → Passed → Type 0) → After A → Type 0
Kept counted s To a = Way false (Of counted) 0 0 a.look s a.passed × To a.answer a.passed

-- from what is so to what is so
pub record Keeps (counted : ℕ) (From : Passed → Type 0) {A : Type 0} (p : Passing A) (To : A → Passed → Type 0) : Type 0 where
  pub keeps : (s : Passed) (a : After A) → p s ≡ Ok a → From s → Kept counted s To a

pub keeps_then : {counted : ℕ} {A B : Type 0} {From : Passed → Type 0} {p : Passing A} {f : A → Passing B} {Between : A → Passed → Type 0}
    {To : B → Passed → Type 0}
    → Keeps counted From p Between → ((x : A) → Keeps counted (Between x) (f x) To) → Keeps counted From (p >>= f) To
keeps_then {counted} {A} {B} {From} {p} {f} {Between} {To} first rest = record {
  keeps = λ s b is from.
      let x = split (p s) (λ a. behind_marks a.look (f a.answer a.passed)) b is in
      let y = split_behind x.0.look (f x.0.answer x.0.passed) b x.2 in
      let one = first.keeps s x.0 x.1 from in
      let two = (rest x.0.answer).keeps x.0.passed y.0 y.1 one.1 in
      subst (Kept counted s To) y.2 (Then one.0 two.0, two.1);
}

-- a step that always answers
pub always : {counted : ℕ} {A : Type 0} {From : Passed → Type 0} {To : A → Passed → Type 0} (p : Passing A) (x : A) (next : Passed → Passed)
    → ((s : Passed) → p s ≡ Ok (after x [] (next s))) → ((s : Passed) → From s → Way false (Of counted) 0 0 [] s (next s) × To x (next s))
    → Keeps counted From p To
always {counted} {A} {From} {To} p x next goes keeps = record {
  keeps = λ s a is from.
      let same : after x [] (next s) ≡ a = let both : ◌≡◌ {A = Checked (After A)} (Ok (after x [] (next s))) (Ok a) = sym (goes s) ∙ is in cc in
      subst (Kept counted s To) same (keeps s from);
}

-- what each step keeps, all of them keep
pub each_keeps : {counted : ℕ} {A : Type 0} {Is : Passed → Type 0} {step : A → Passing (Unit {0})} → ((x : A) → Keeps counted Is (step x) (λ _ s. Is s))
    → (xs : List A) → Keeps counted Is (each step xs) (λ _ s. Is s)
each_keeps law [] = always (pure tt) tt (λ s. s) (λ s. refl) (λ s is. (Stay, is))
each_keeps law (x ∷ xs) = keeps_then (law x) λ _. each_keeps law xs

-- a form, and then a test of what it is
pub keeps_checks : {counted : ℕ} {A B : Type 0} {From : Passed → Type 0} {p : Passing A} {test : List Form → A → Checked B} {Between : A → Passed → Type 0}
    {To : B → Passed → Type 0}
    → Keeps counted From p Between
    → ((types : List Form) (x : A) (b : B) (s : Passed) → s.types ≡ types → test types x ≡ Ok b → Between x s → To b s) → Keeps counted From (p >>? test) To
keeps_checks {counted} {A} {B} {From} {p} {test} {Between} {To} first fits = record {
  keeps = λ s b is from.
      let x = split (p s) (λ a. and_then (test a.passed.types a.answer) (λ b. Ok (after b a.look a.passed))) b is in
      let y = split (test x.0.passed.types x.0.answer) (λ b. Ok (after b x.0.look x.0.passed)) b x.2 in
      let one = first.keeps s x.0 x.1 from in
      let same : after y.0 x.0.look x.0.passed ≡ b = cc in
      subst (Kept counted s To) same (one.0, fits x.0.passed.types x.0.answer y.0 x.0.passed refl y.1 one.1);
}

-- an answer that follows from nothing
pub pure_keeps : {counted : ℕ} {A : Type 0} {From : Passed → Type 0} {To : A → Passed → Type 0} (x : A) → ((s : Passed) → From s → To x s)
    → Keeps counted From (pure x) To
pure_keeps x keeps = always (pure x) x (λ s. s) (λ s. refl) (λ s from. (Stay, keeps s from))

-- where less is known behind
pub behind : {counted : ℕ} {A : Type 0} {From : Passed → Type 0} {p : Passing A} {To Less : A → Passed → Type 0}
    → ((x : A) (s : Passed) → To x s → Less x s) → Keeps counted From p To → Keeps counted From p Less
behind weaker law = record {
  keeps = λ s a is from.
      let one = law.keeps s a is from in
      (one.0, weaker a.answer a.passed one.1);
}

-- where more is known before
pub before : {counted : ℕ} {A : Type 0} {From More : Passed → Type 0} {p : Passing A} {To : A → Passed → Type 0} → ((s : Passed) → More s → From s)
    → Keeps counted From p To → Keeps counted More p To
before weaker law = record { keeps = λ s a is more. law.keeps s a is (weaker s more) }

-- what else stays so
pub aside : {counted : ℕ} {A : Type 0} {From Also : Passed → Type 0} {p : Passing A} {To : A → Passed → Type 0}
    → ((s new : Passed) → IsLonger s.types new.types → new.enclosing.block ≡ s.enclosing.block → Also s → Also new) → Keeps counted From p To
    → Keeps counted (λ s. From s × Also s) p (λ x s. To x s × Also s)
aside stays law = record {
  keeps = λ s a is from.
      let one = law.keeps s a is from.0 in
      (one.0, (one.1, stays s a.passed (grows one.0).types (ap (λ (e : Enclosing). e.block) (silent one.0).enclosing) from.1));
}
