-- What each way leaves as it is, and what it makes longer.
use Rattle.std.proofs.Common.{◌≡◌, ℕ, zero, suc, ◌-◌, ◌||◌, if◌then◌else◌, Bool, true, false, nat_eq, List, [], ◌∷◌, ◌++◌, length, take, refl, ap, ap₂, ◌∙◌}
use Rattle.std.proofs.Common.{arith}
use Rattle.std.proofs.Common.{length-append}
use Rattle.std.specs.List.{list_any}
use Rattle.std.proofs.lemmas.Grind.{flat_map-append}
use Rattle.place.specs.declared.Place.{Place}
use Rattle.types.specs.Forms.{Form}
use Rattle.typed_tree.specs.Look.{Look, ForEnds, blocks_of_look, mark_blocks}
use Rattle.typed_tree.specs.declared.tree.Variable.{Variable}
use Rattle.typed_tree.specs.Ids.{Stands}
use Rattle.typed_tree.specs.WellFormed.{variables_of}
use Rattle.scopes.specs.Scopes.{Region, outer}
use Rattle.typing.specs.Passing.{Headed, OpenRecord, Passed}
use Rattle.typing.specs.Steps.{with_one}
use Rattle.typing.proofs.Ways.{Owner, Nobody, Of, Step, Entry, Loop, Marked, Site, Point, Threat, Typed, Define, Declare, Heading, Token, Text, Given}
use Rattle.typing.proofs.Ways.{Record, RecordEnds}
use Rattle.typing.proofs.Ways.{Way, Stay, One, Then, Controlled, Assigned}
use Rattle.typing_laws.proofs.Owned.{Fails, others_kept}
use Rattle.typing_laws.proofs.Reached.{IsLonger, as_long, longer_still, one_longer}

-- ---- what grows

-- what is there is there with one more
pub kept_with : (roots : List ℕ) (root other : ℕ) → list_any (nat_eq other) roots ≡ true → list_any (nat_eq other) (with_one roots root) ≡ true
kept_with roots root other is = one (list_any (nat_eq root) roots)
  where
    before : (all : List ℕ) → list_any (nat_eq other) all ≡ true → list_any (nat_eq other) (all ++ root ∷ []) ≡ true
    before [] h = absurd cc
    before (first ∷ all) h = here_or (nat_eq other first) (before all) h
      where
        here_or : (test : Bool) → (list_any (nat_eq other) all ≡ true → list_any (nat_eq other) (all ++ root ∷ []) ≡ true)
            → (test || list_any (nat_eq other) all) ≡ true → (test || list_any (nat_eq other) (all ++ root ∷ [])) ≡ true
        here_or true more g = refl
        here_or false more g = more g

    one : (test : Bool) → list_any (nat_eq other) (if test then roots else roots ++ root ∷ []) ≡ true
    one true = is
    one false = before roots is

-- what a way makes longer
pub record Heap : Type 0 where
  pub types : List Form
  pub variables : List Variable
  pub headings : List Headed
  pub sites : List Stands
  pub points : List Place
  pub threatened : List ℕ

abbrev pub heap_of : Passed → Heap
heap_of s = record {
  types = s.types;
  variables = s.variables;
  headings = s.headings;
  sites = s.sites;
  points = s.points;
  threatened = s.threatened;
}

-- the types, the variables, the headings, the sites and the points are those before and perhaps more; what is threatened stays so
pub record IsHigher (old new : Heap) : Type 0 where
  pub types : IsLonger old.types new.types
  pub variables : IsLonger old.variables new.variables
  pub headings : IsLonger old.headings new.headings
  pub sites : IsLonger old.sites new.sites
  pub points : IsLonger old.points new.points
  pub threats : (root : ℕ) → list_any (nat_eq root) old.threatened ≡ true → list_any (nat_eq root) new.threatened ≡ true

abbrev pub Grows : Passed → Passed → Type 0
Grows old new = IsHigher (heap_of old) (heap_of new)

pub as_high : {one : Heap} → IsHigher one one
as_high = record {
  types = as_long;
  variables = as_long;
  headings = as_long;
  sites = as_long;
  points = as_long;
  threats = λ root is. is;
}

pub grow_then : {old now new : Heap} → IsHigher old now → IsHigher now new → IsHigher old new
grow_then f g = record {
  types = longer_still f.types g.types;
  variables = longer_still f.variables g.variables;
  headings = longer_still f.headings g.headings;
  sites = longer_still f.sites g.sites;
  points = longer_still f.points g.points;
  threats = λ root is. g.threats root (f.threats root is);
}

types_grow : {acts : Bool} {owner : Owner} {from to : ℕ} {look : Look} {old new : Passed} → Step acts owner from to look old new → IsLonger old.types new.types
types_grow {old = old} (Typed form adds) = one_longer old.types form
types_grow other = as_long

variables_grow : {acts : Bool} {owner : Owner} {from to : ℕ} {look : Look} {old new : Passed} → Step acts owner from to look old new
    → IsLonger old.variables new.variables
variables_grow {old = old} (Declare variable cells owns) = one_longer old.variables variable
variables_grow other = as_long

headings_grow : {acts : Bool} {owner : Owner} {from to : ℕ} {look : Look} {old new : Passed} → Step acts owner from to look old new
    → IsLonger old.headings new.headings
headings_grow {old = old} (Heading headed) = one_longer old.headings headed
headings_grow other = as_long

sites_grow : {acts : Bool} {owner : Owner} {from to : ℕ} {look : Look} {old new : Passed} → Step acts owner from to look old new → IsLonger old.sites new.sites
sites_grow {old = old} (Site kind place few) = one_longer old.sites (kind, place)
sites_grow other = as_long

points_grow : {acts : Bool} {owner : Owner} {from to : ℕ} {look : Look} {old new : Passed} → Step acts owner from to look old new
    → IsLonger old.points new.points
points_grow {old = old} (Point place few) = one_longer old.points place
points_grow other = as_long

threats_grow : {acts : Bool} {owner : Owner} {from to : ℕ} {look : Look} {old new : Passed} → Step acts owner from to look old new → (root : ℕ)
    → list_any (nat_eq root) old.threatened ≡ true → list_any (nat_eq root) new.threatened ≡ true
threats_grow {old = old} (Threat one) root is = kept_with old.threatened one root is
threats_grow other root is = is

pub grows : {acts : Bool} {owner : Owner} {from to : ℕ} {look : Look} {old new : Passed} → Way acts owner from to look old new → Grows old new
grows Stay = as_high
grows (One step) = record {
  types = types_grow step;
  variables = variables_grow step;
  headings = headings_grow step;
  sites = sites_grow step;
  points = points_grow step;
  threats = threats_grow step;
}
grows (Then first second) = grow_then (grows first) (grows second)
grows (Controlled root way) = grows way
grows (Assigned root way told) = grows way

-- ---- control variables

-- the last one ends
pub take_front : {A : Type 0} (all more : List A) → take (length all) (all ++ more) ≡ all
take_front [] more = by more
  where
    by : {A : Type 0} (more : List A) → take 0 more ≡ []
    by [] = refl
    by (x ∷ more) = refl
take_front (first ∷ all) more = ap (λ rest. first ∷ rest) (take_front all more)

pub ended_control : {A : Type 0} (all : List A) (one : A) → take (length (all ++ one ∷ []) - 1) (all ++ one ∷ []) ≡ all
ended_control all one =
    let counted = length-append all (one ∷ []) in
    let one_less : length (all ++ one ∷ []) - 1 ≡ length all = omega (arith, counted) in
    ap (λ (n : ℕ). take n (all ++ one ∷ [])) one_less ∙ take_front all (one ∷ [])

controls_step : {acts : Bool} {owner : Owner} {from to : ℕ} {look : Look} {old new : Passed} → Step acts owner from to look old new
    → new.controls ≡ old.controls
controls_step (Token place) = refl
controls_step other = refl

-- those of the for statements round a place stay
pub same_controls : {acts : Bool} {owner : Owner} {from to : ℕ} {look : Look} {old new : Passed} → Way acts owner from to look old new
    → new.controls ≡ old.controls
same_controls Stay = refl
same_controls (One step) = controls_step step
same_controls (Then first second) = same_controls second ∙ same_controls first
same_controls (Assigned root way told) = same_controls way
same_controls {old = old} (Controlled root way) = ap (λ (all : List ℕ). take (length all - 1) all) (same_controls way) ∙ ended_control old.controls root

-- ---- forms that declare nothing

-- the regions under so many that were opened, and the records before as many
abbrev pub under : ℕ → List Region → List Region
under zero regions = regions
under (suc depth) regions = under depth (outer regions)

abbrev pub before : ℕ → List OpenRecord → List OpenRecord
before zero records = records
before (suc depth) records = before depth (take (length records - 1) records)

-- they leave the regions, the records, the variables, the headings and the block round the place, and no block ends in them
pub record IsInner (from to : ℕ) (look : Look) (old new : Passed) : Type 0 where
  pub regions : under to new.regions ≡ under from old.regions
  pub records : before to new.records ≡ before from old.records
  pub variables : new.variables ≡ old.variables
  pub headings : new.headings ≡ old.headings
  pub enclosing : new.enclosing ≡ old.enclosing
  pub ends : blocks_of_look look ≡ []

-- a form that leaves all of these
inner_mark : {depth : ℕ} {look : Look} {s : Passed} (new : Passed) → new.regions ≡ s.regions → new.records ≡ s.records → new.variables ≡ s.variables
    → new.headings ≡ s.headings → new.enclosing ≡ s.enclosing → blocks_of_look look ≡ [] → IsInner depth depth look s new
inner_mark {depth = depth} new regions records variables headings enclosing ends = record {
  regions = ap (under depth) regions;
  records = ap (before depth) records;
  variables = variables;
  headings = headings;
  enclosing = enclosing;
  ends = ends;
}

inner_step : {acts : Bool} {from to : ℕ} {look : Look} {old new : Passed} → Step acts Nobody from to look old new → IsInner from to look old new
inner_step {new = new} (Entry one few is) = inner_mark new refl refl refl refl refl (ap (λ n. n.2 ++ []) is)
inner_step {new = new} (Loop one few room is) = inner_mark new refl refl refl refl refl (ap (λ n. n.2 ++ []) is)
inner_step {new = new} (Marked one none) = inner_mark new refl refl refl refl refl (ap (λ n. n.2 ++ []) none)
inner_step {from = depth} {old = old} (Record region opened) = record {
  regions = refl;
  records = ap (before depth) (ended_control old.records opened);
  variables = refl;
  headings = refl;
  enclosing = refl;
  ends = refl;
}
inner_step RecordEnds = record { regions = refl; records = refl; variables = refl; headings = refl; enclosing = refl; ends = refl }
inner_step (Define name denotation regions defines is) = absurd defines
inner_step (Declare variable cells owns) = absurd owns
inner_step {new = new} other = inner_mark new refl refl refl refl refl refl

pub inner : {acts : Bool} {from to : ℕ} {look : Look} {old new : Passed} → Way acts Nobody from to look old new → IsInner from to look old new
inner Stay = record { regions = refl; records = refl; variables = refl; headings = refl; enclosing = refl; ends = refl }
inner (One step) = inner_step step
inner (Then {look = look} {more = more} first second) =
    let f = inner first in
    let g = inner second in
    record {
      regions = g.regions ∙ f.regions;
      records = g.records ∙ f.records;
      variables = g.variables ∙ f.variables;
      headings = g.headings ∙ f.headings;
      enclosing = g.enclosing ∙ f.enclosing;
      ends = flat_map-append mark_blocks look more ∙ ap₂ (λ a b. a ++ b) f.ends g.ends;
    }
inner (Assigned root way told) =
    let f = inner way in
    record { regions = f.regions; records = f.records; variables = f.variables; headings = f.headings; enclosing = f.enclosing; ends = f.ends }
inner (Controlled {look = look} root way) =
    let f = inner way in
    record {
      regions = f.regions;
      records = f.records;
      variables = f.variables;
      headings = f.headings;
      enclosing = f.enclosing;
      ends = flat_map-append mark_blocks look (ForEnds ∷ []) ∙ ap (λ l. l ++ []) f.ends;
    }

-- the same among more regions that were opened before
deeper_step : {from to : ℕ} {look : Look} {old new : Passed} → Step true Nobody from to look old new → Step true Nobody (suc from) (suc to) look old new
deeper_step (Token place) = Token place
deeper_step (Entry one few is) = Entry one few is
deeper_step (Loop one few room is) = Loop one few room is
deeper_step (Marked one none) = Marked one none
deeper_step (Site kind place few) = Site kind place few
deeper_step (Point place few) = Point place few
deeper_step (Threat root) = Threat root
deeper_step (Typed form adds) = Typed form adds
deeper_step (Text characters) = Text characters
deeper_step (Given input output) = Given input output
deeper_step (Define name denotation regions defines is) = absurd defines
deeper_step (Declare variable cells owns) = absurd owns
deeper_step (Record region opened) = Record region opened
deeper_step RecordEnds = RecordEnds

pub deeper : {from to : ℕ} {look : Look} {old new : Passed} → Way true Nobody from to look old new → Way true Nobody (suc from) (suc to) look old new
deeper Stay = Stay
deeper (One step) = One (deeper_step step)
deeper (Then first second) = Then (deeper first) (deeper second)
deeper (Controlled root way) = Controlled root (deeper way)
deeper (Assigned root way told) = Assigned root (deeper way) told

-- ---- definitions

pub no_mark : {owner : Owner} {from to : ℕ} {look : Look} {old new : Passed} → Way false owner from to look old new → look ≡ []
no_mark Stay = refl
no_mark (One step) = by step
  where
    by : {owner : Owner} {from to : ℕ} {look : Look} {old new : Passed} → Step false owner from to look old new → look ≡ []
    by (Token place) = refl
    by other = refl
no_mark (Then first second) = ap₂ (λ a b. a ++ b) (no_mark first) (no_mark second)

-- they leave what is known of statements and of other blocks
pub record Silent (counted : ℕ) (old new : Passed) : Type 0 where
  pub sites : new.sites ≡ old.sites
  pub points : new.points ≡ old.points
  pub threatened : new.threatened ≡ old.threatened
  pub headings : new.headings ≡ old.headings
  pub records : new.records ≡ old.records
  pub enclosing : record (new.enclosing) { cells = 0 } ≡ record (old.enclosing) { cells = 0 }
  pub others : (block : ℕ) → Fails (nat_eq counted block) → variables_of block new.variables ≡ variables_of block old.variables

silent_step : {counted from to : ℕ} {look : Look} {old new : Passed} → Step false (Of counted) from to look old new → Silent counted old new
silent_step {old = old} (Declare variable cells owns) = record {
  sites = refl;
  points = refl;
  threatened = refl;
  headings = refl;
  records = refl;
  enclosing = refl;
  others = λ block other. others_kept block old.variables variable (ap (λ n. nat_eq n block) owns ∙ other);
}
silent_step other = record {
  sites = refl;
  points = refl;
  threatened = refl;
  headings = refl;
  records = refl;
  enclosing = refl;
  others = λ block other. refl;
}

pub silent : {counted from to : ℕ} {look : Look} {old new : Passed} → Way false (Of counted) from to look old new → Silent counted old new
silent Stay = record {
  sites = refl;
  points = refl;
  threatened = refl;
  headings = refl;
  records = refl;
  enclosing = refl;
  others = λ block other. refl;
}
silent (One step) = silent_step step
silent (Then first second) =
    let f = silent first in
    let g = silent second in
    record {
      sites = g.sites ∙ f.sites;
      points = g.points ∙ f.points;
      threatened = g.threatened ∙ f.threatened;
      headings = g.headings ∙ f.headings;
      records = g.records ∙ f.records;
      enclosing = g.enclosing ∙ f.enclosing;
      others = λ block other. g.others block other ∙ f.others block other;
    }
