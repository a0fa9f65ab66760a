-- What a form does to what is known: it adds sites, points, entries and perhaps types, and its marks are well formed, as they
-- are with more sites, types, variables and headings behind. All else stays.
use Rattle.std.proofs.Common.{◌≡◌, ℕ, ◌<◌, Bool, true, false, nat_eq, refl, ◌&&◌, List, ◌++◌, length, map, Some, slice_get}
use Rattle.std.proofs.Common.{append_assoc, length-append, sym, ap, subst, ◌∙◌, arith}
use Rattle.std.specs.List.{list_all, list_any}
use Rattle.std.proofs.lemmas.List.Folds.{list_all-append}
use Rattle.std.proofs.lemmas.Grind.{flat_map-append}
use Rattle.types.specs.Types.{is_ordinal}
use Rattle.typed_tree.specs.declared.tree.Variable.{Variable}
use Rattle.typed_tree.specs.WellFormed.{Outline, is_parameter_kind}
use Rattle.typed_tree.specs.Look.{Look, is_formed_mark}
use Rattle.typed_tree.specs.Records.{OpenRecord}
use Rattle.typing.specs.Passing.{Enclosing, Passed}
use Rattle.typing.proofs.Ways.{Owner, Nobody, Way, Then}
use Rattle.typing_laws.proofs.Reached.{get_longer, Signature, signature_passed, Head, head_of, Reached, reached, whole_of}
use Rattle.typing_laws.proofs.Reached.{IsFurther, further_still, mapped_longer, Here, StandsIn, stands_later}
use Rattle.typing_laws.proofs.Sound.{AreSound, inside_itself, regions_later}
use Rattle.typing_laws.proofs.Tables.{AreLawful, AreTexts, stands_longer, is_ordinal_longer}
use Rattle.typing_laws.specs.Controls.{Each, mark_changes, mark_controls, spared_behind}
use Rattle.typing_laws.specs.Opened.{opened_behind}
use Rattle.typing_laws.proofs.Opened.{open_in, opened_then}
use Rattle.typing_laws.proofs.Spared.{AreHeld, spared_then}
use Rattle.typing_laws.proofs.Reached.{apart_kept}
use Rattle.typing_laws.proofs.Went.{Grows, grows, inner, same_controls}
use Rattle.typing_laws.proofs.Kept.{MayChange, change_later, changes_of, controls_of, each_append, each_more}
use Rattle.typing_laws.proofs.Owned.{Fails}
use Rattle.typing_laws.proofs.Covers.{Stood, point_of, points_among, site_of, sites_among}

-- ---- headings that were passed

-- a formal parameter is a variable that is declared as one
pub record IsFormal (now : Reached) (root : ℕ) : Type 0 where
  pub variable : Variable
  pub is_there : slice_get now.variables root ≡ Some variable
  pub is_parameter : is_parameter_kind variable.kind ≡ true
  pub stands : variable.type_id.index < length now.types

-- the result of a function is an ordinal that its block declares
pub record IsOutcome (now : Reached) (block root : ℕ) : Type 0 where
  pub variable : Variable
  pub is_there : slice_get now.variables root ≡ Some variable
  pub of_block : variable.block ≡ block
  pub ordinal : is_ordinal now.types variable.type_id ≡ true
  pub stands : variable.type_id.index < length now.types

-- what a heading tells is so
pub record FitsHeading (now : Reached) (block : ℕ) (signature : Signature) : Type 0 where
  pub formals : (position root : ℕ) → slice_get signature.parameters position ≡ Some root → IsFormal now root
  pub outcome : (root : ℕ) → signature.result ≡ Some root → IsOutcome now block root

-- of each block whose heading was passed
pub record AreFit (now : Reached) : Type 0 where
  pub fits : (block : ℕ) (signature : Signature) → slice_get now.headings block ≡ Some signature → FitsHeading now block signature

pub fits_later : (now next : Reached) (block : ℕ) (signature : Signature) → IsFurther now next → FitsHeading now block signature
    → FitsHeading next block signature
fits_later now next block signature more f = record {
  formals = λ position root is.
      let formal = f.formals position root is in
      record {
        variable = formal.variable;
        is_there = get_longer more.variables root formal.variable formal.is_there;
        is_parameter = formal.is_parameter;
        stands = stands_longer more.types formal.variable.type_id formal.stands;
      };
  outcome = λ root is.
      let outcome = f.outcome root is in
      record {
        variable = outcome.variable;
        is_there = get_longer more.variables root outcome.variable outcome.is_there;
        of_block = outcome.of_block;
        ordinal = is_ordinal_longer more.types outcome.variable.type_id outcome.stands ∙ outcome.ordinal;
        stands = stands_longer more.types outcome.variable.type_id outcome.stands;
      };
}

-- with the same headings
pub fit_later : (now next : Reached) → IsFurther now next → next.headings ≡ now.headings → AreFit now → AreFit next
fit_later now next more same f = record {
  fits = λ block signature is.
      fits_later now next block signature more (f.fits block signature (ap (λ all. slice_get all block) (sym same) ∙ is));
}

-- ---- what is known

abbrev pub heads_of : Reached → List Head
heads_of now = map head_of now.headings

-- what holds of what names denote there
abbrev pub AreSoundAt : Here → Passed → Type 0
AreSoundAt here s = AreSound here s.variables s.types (heads_of (reached s)) s.regions

-- what is known in a block may be passed on
pub record Fine (here : Here) (s : Passed) : Type 0 where
  pub sound : AreSoundAt here s
  pub lawful : AreLawful s.types
  pub texts : AreTexts s.texts
  pub block : s.enclosing.block ≡ here.block
  pub around : s.enclosing.around ≡ here.around
  pub records : s.records ≡ here.records
  pub stands : StandsIn here (reached s)
  pub fit : AreFit (reached s)

-- a variable of the block's own that no other block threatened
pub record IsFree (here : Here) (old new : Passed) (root : ℕ) : Type 0 where
  pub variable : Variable
  pub is_there : slice_get new.variables root ≡ Some variable
  pub own : nat_eq variable.block here.block ≡ true
  pub free : Fails (list_any (nat_eq root) old.threatened)

-- a form of a block that looks so; behind it the tree tells of these records that they are open
pub record Nested (here : Here) (behind : List OpenRecord) (look : Look) (old new : Passed) : Type 0 where
  pub way : Way true Nobody 0 0 look old new
  pub lawful : AreLawful new.types
  pub texts : AreTexts new.texts
  pub changes : Each (MayChange here (reached new)) (changes_of look)
  pub controls : Each (IsFree here old new) (controls_of look)
  pub formed : (o : Outline) → IsFurther (reached new) (whole_of o) → list_all (is_formed_mark o here.block) look ≡ true
  pub spared : (roots : List ℕ) → AreHeld roots old.controls → spared_behind roots look ≡ Some roots
  pub opened : opened_behind (open_in here) look ≡ Some behind

-- one that leaves them as they are
abbrev pub Grown : Here → Look → Passed → Passed → Type 0
Grown here look old new = Nested here (open_in here) look old new

-- the sites and the points that come, of which something holds
pub record Sited (Has : List Stood → Type 0) (old new : Passed) : Type 0 where
  pub added : List Stood
  pub sites : new.sites ≡ old.sites ++ sites_among added
  pub points : new.points ≡ old.points ++ points_among added
  pub covered : Has added

abbrev pub sited_then : {First Second Both : List Stood → Type 0} {old now new : Passed} → ((a b : List Stood) → First a → Second b → Both (a ++ b))
    → Sited First old now → Sited Second now new → Sited Both old new
sited_then {old = old} joined f g = record {
  added = f.added ++ g.added;
  sites =
      g.sites ∙ ap (λ l. l ++ sites_among g.added) f.sites ∙ append_assoc old.sites (sites_among f.added) (sites_among g.added)
      ∙ ap (λ l. old.sites ++ l) (sym (flat_map-append (λ (one : Stood). site_of one.0 one.1) f.added g.added));
  points =
      g.points ∙ ap (λ l. l ++ points_among g.added) f.points ∙ append_assoc old.points (points_among f.added) (points_among g.added)
      ∙ ap (λ l. old.points ++ l) (sym (flat_map-append (λ (one : Stood). point_of one.0 one.1) f.added g.added));
  covered = joined f.added g.added f.covered g.covered;
}

abbrev pub sited_more : {Has Had : List Stood → Type 0} {old new : Passed} → ((a : List Stood) → Has a → Had a) → Sited Has old new → Sited Had old new
sited_more has x = record { added = x.added; sites = x.sites; points = x.points; covered = has x.added x.covered }

pub both_true : (a b : Bool) → a ≡ true → b ≡ true → (a && b) ≡ true
both_true a b x y = ap (λ c. c && b) x ∙ y

pub grown_further : (old new : Passed) → Grows old new → new.controls ≡ old.controls → IsFurther (reached old) (reached new)
grown_further old new g kept = record {
  sites = omega (arith, ap length g.sites.goes_on, length-append old.sites g.sites.more);
  points = omega (arith, ap length g.points.goes_on, length-append old.points g.points.more);
  types = g.types;
  variables = g.variables;
  headings = mapped_longer signature_passed g.headings;
  threats = g.threats;
  apart = apart_kept old new kept;
}

pub further : {acts : Bool} {owner : Owner} {from to : ℕ} {look : Look} {old new : Passed} → Way acts owner from to look old new
    → IsFurther (reached old) (reached new)
further {old = old} {new = new} way = grown_further old new (grows way) (same_controls way)

pub fine_later : {here : Here} {behind : List OpenRecord} {look : Look} {old new : Passed} → Nested here behind look old new → Fine here old → Fine here new
fine_later {here} {old = old} {new = new} g f =
    let more = further g.way in
    let kept = inner g.way in
    record {
      sound =
          subst (AreSound here new.variables new.types (heads_of (reached new))) (sym kept.regions)
          (regions_later inside_itself more.variables more.types (mapped_longer head_of more.headings) old.regions f.sound);
      lawful = g.lawful;
      texts = g.texts;
      block = ap (λ (e : Enclosing). e.block) kept.enclosing ∙ f.block;
      around = ap (λ (e : Enclosing). e.around) kept.enclosing ∙ f.around;
      records = kept.records ∙ f.records;
      stands = stands_later here (reached old) (reached new) more f.stands;
      fit = fit_later (reached old) (reached new) more (ap (map signature_passed) kept.headings) f.fit;
    }

-- a variable that is threatened later alone is free before
free_before : (a b : Bool) → (a ≡ true → b ≡ true) → Fails b → Fails a
free_before true b more is = let same : false ≡ true = sym is ∙ more refl in absurd cc
free_before false b more is = refl

-- one form, and then another
pub grown_then : {here : Here} {behind : List OpenRecord} {look more : Look} {old now new : Passed} → Grown here look old now
    → Nested here behind more now new → Nested here behind (look ++ more) old new
grown_then {here} {behind} {look} {more} {old} {now} {new} f g = record {
  way = Then f.way g.way;
  lawful = g.lawful;
  texts = g.texts;
  changes =
      subst (Each (MayChange here (reached new))) (sym (flat_map-append mark_changes look more))
      (each_append (MayChange here (reached new)) (changes_of look) (changes_of more)
      (each_more (MayChange here (reached now)) (MayChange here (reached new)) (changes_of look)
      (λ root. change_later here (reached now) (reached new) root (further g.way)) f.changes)
      g.changes);
  controls =
      subst (Each (IsFree here old new)) (sym (flat_map-append mark_controls look more))
      (each_append (IsFree here old new) (controls_of look) (controls_of more)
      (each_more (IsFree here old now) (IsFree here old new) (controls_of look) (λ root c. record {
        variable = c.variable;
        is_there = ap (λ l. slice_get l root) (inner g.way).variables ∙ c.is_there;
        own = c.own;
        free = c.free;
      }) f.controls)
      (each_more (IsFree here now new) (IsFree here old new) (controls_of more) (λ root c. record {
        variable = c.variable;
        is_there = c.is_there;
        own = c.own;
        free = free_before (list_any (nat_eq root) old.threatened) (list_any (nat_eq root) now.threatened) ((grows f.way).threats root) c.free;
      }) g.controls));
  formed = λ o h.
      list_all-append (is_formed_mark o here.block) look more ∙ both_true _ _ (f.formed o (further_still (further g.way) h)) (g.formed o h);
  spared = λ roots held. spared_then roots look more (f.spared roots held) (g.spared roots (subst (AreHeld roots) (sym (same_controls f.way)) held));
  opened = opened_then (open_in here) (open_in here) behind look more f.opened g.opened;
}
