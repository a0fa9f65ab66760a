-- How the store of a program's meaning and the cells of the machine agree, over all the activations that live: each scalar of
-- a variable lies in a cell that holds the same. The other cells, as links, addresses and what is held, may be fixed
-- meanwhile; static links lead from frame to frame over such cells. It says nothing of cells that are neither.
use Rattle.code_generator.proofs.Words.{◌≡◌, ℕ, zero, suc, ◌+◌, ◌<◌, ◌≤◌, ◌⊎◌, List, [], ◌∷◌, ◌++◌, length, Option, Some, None, Ok, Err, refl, sym, ap, ◌∙◌}
use Rattle.code_generator.proofs.Words.{subst, ⊎_elim, arith, length-append, Bool, true, false, slice_get, slice_set, pos, if◌then◌else◌, lt-ltb}
use Rattle.code_generator.proofs.Words.{slice_get_within, Value, Place, stored, Cell, Number}
use Rattle.std.proofs.lemmas.Bool.{cases_eq}
use Rattle.types.specs.Components.{Steps}
use Rattle.meaning.specs.Store.{Store, place_eq}
use Rattle.stack_machine.specs.declared.stop.MachineFault.TheVariants.{OutOfBounds}
use Rattle.stack_machine.specs.Frames.{◌>>=◌, number, address_of, base}
use Rattle.typed_tree.specs.WellFormed.{Outline}
use Rattle.code_generator.proofs.Scalars.{HasFit, cell_of, scalar_at, scalar_same}
use Rattle.code_generator.proofs.Lists.{slice_get-front, set_same, set_other}

-- a variable of a frame
pub record Extent : Type 0 where
  -- where it begins in its frame
  pub start : ℕ
  -- the steps to its scalar components, which lie one behind another
  pub components : List Steps

-- an activation of a block, and its frame
pub record Activation : Type 0 where
  -- its number in the program's meaning
  pub number : ℕ
  -- the index of the first cell of its frame
  pub frame : ℕ
  -- a variable of its own, by the variable's root
  pub owns : ℕ → Option Extent

-- the activations that live, the latest first
abbrev pub World : Type 0
World = List Activation

-- a place is a scalar of an activation's own variable, and lies in this cell
pub record Lies (a : Activation) (p : Place) (cell : ℕ) : Type 0 where
  pub its : p.activation ≡ a.number
  pub extent : Extent
  pub owned : a.owns p.variable ≡ Some extent
  pub inward : ℕ
  pub reached : slice_get extent.components inward ≡ Some p.steps
  pub cell_is : cell ≡ a.frame + extent.start + inward

-- an activation lives
abbrev pub Lives : World → Activation → Type 0
Lives [] a = ⊥
Lives (b ∷ world) a = (a ≡ b) ⊎ Lives world a

-- a place is a scalar of a living activation, and lies in this cell
pub record LiesIn (world : World) (p : Place) (cell : ℕ) : Type 0 where
  pub owner : Activation
  pub lives : Lives world owner
  pub lies : Lies owner p cell

-- what cells hold that are no scalar's and stay as they are: nothing is told of the others
abbrev pub Fixed : Type 0
Fixed = List (Option Cell)

-- the scalars lie apart from each other, in cells that aren't fixed
pub record IsApart (world : World) (fixed : Fixed) : Type 0 where
  -- two scalars are one, or they are different places and lie in different cells
  pub scalars : (p q : Place) (c d : ℕ) → LiesIn world p c → LiesIn world q d → ((c ≡ d) × (place_eq p q ≡ true)) ⊎ ((c ≡ d → ⊥) × (place_eq p q ≡ false))
  pub free : (p : Place) (c : ℕ) → LiesIn world p c → slice_get fixed c ≡ Some None

-- the store and the cells are alike
pub record Alike (outline : Outline) (world : World) (store : Store) (cells : List Cell) : Type 0 where
  -- each scalar and its cell hold the same, or nothing
  pub scalars : (p : Place) (c : ℕ) → LiesIn world p c → slice_get cells c ≡ Some (cell_of (stored store p))
  -- what a scalar holds is of its kind
  pub fits : (p : Place) (c : ℕ) → LiesIn world p c → HasFit (scalar_at outline p) (stored store p)

-- the cells hold what is fixed
pub record Keeps (fixed : Fixed) (cells : List Cell) : Type 0 where
  pub each : (i : ℕ) (cell : Cell) → slice_get fixed i ≡ Some (Some cell) → slice_get cells i ≡ Some cell

-- the cell of a scalar is one of the cells
pub cell_within : (outline : Outline) (world : World) (store : Store) (cells : List Cell) (p : Place) (c : ℕ) → Alike outline world store cells
    → LiesIn world p c → c < length cells
cell_within outline world store cells p c alike lies = slice_get_within cells c (cell_of (stored store p)) (alike.scalars p c lies)

-- more cells on top change nothing
pub alike_above : (outline : Outline) (world : World) (store : Store) (cells more : List Cell) → Alike outline world store cells
    → Alike outline world store (cells ++ more)
alike_above outline world store cells more alike = record {
  scalars = λ p c l. slice_get-front cells more c _ (alike.scalars p c l);
  fits = alike.fits;
}

pub keeps_above : (fixed : Fixed) (cells more : List Cell) → Keeps fixed cells → Keeps fixed (cells ++ more)
keeps_above fixed cells more keeps = record { each = λ i cell at. slice_get-front cells more i cell (keeps.each i cell at) }

-- a scalar gets a value, or becomes undefined
module _ (outline : Outline) (world : World) (store : Store) (cells : List Cell) (fixed : Fixed) (p : Place) (c : ℕ) (new : Option Value)
    (apart : IsApart world fixed) (at : LiesIn world p c) where
  abbrev after : Store
  after = (p, new) ∷ store

  abbrev set_cells : List Cell
  set_cells = slice_set cells c (cell_of new)

  -- what a place holds afterwards, by whether it is the one that was written
  stored_by : (q : Place) (same : Bool) → place_eq p q ≡ same → stored after q ≡ (if same then new else stored store q)
  stored_by q same e = ap (λ b. if b then new else stored store q) e

  module _ (fit : HasFit (scalar_at outline p) new) (alike : Alike outline world store cells) where
    scalar_after : (q : Place) (d : ℕ) → LiesIn world q d → slice_get set_cells d ≡ Some (cell_of (stored after q))
    scalar_after q d l =
        ⊎_elim
        (λ same.
        ap (slice_get set_cells) (sym same.0)
        ∙ set_same cells c (cell_of new) (cell_within outline world store cells p c alike at)
        ∙ ap (λ o. Some (cell_of o)) (sym (stored_by q true same.1)))
        (λ other.
        set_other cells c d (cell_of new) other.0
        ∙ alike.scalars q d l
        ∙ ap (λ o. Some (cell_of o)) (sym (stored_by q false other.1)))
        (apart.scalars p q c d at l)

    fit_after : (q : Place) (d : ℕ) → LiesIn world q d → HasFit (scalar_at outline q) (stored after q)
    fit_after q d l =
        ⊎_elim
        (λ same. subst (HasFit (scalar_at outline q)) (sym (stored_by q true same.1))
        (subst (λ kind. HasFit kind new) (scalar_same outline p q same.1) fit))
        (λ other. subst (HasFit (scalar_at outline q)) (sym (stored_by q false other.1)) (alike.fits q d l))
        (apart.scalars p q c d at l)

    pub alike_set : Alike outline world after set_cells
    alike_set = record { scalars = scalar_after; fits = fit_after }

  -- what is fixed stays
  pub keeps_set : Keeps fixed cells → Keeps fixed set_cells
  keeps_set keeps = record {
    each = λ i cell fixed_at.
        ⊎_elim
        (λ (same : c ≡ i). let clash : Some (Some cell) ≡ Some None = sym fixed_at ∙ ap (slice_get fixed) (sym same) ∙ apart.free p c at in absurd cc)
        (λ (other : c ≡ i → ⊥). set_other cells c i (cell_of new) other ∙ keeps.each i cell fixed_at)
        (cases_eq c i);
  }

-- ---- static links

-- so many static links lead from one frame to another
abbrev pub Leads : Fixed → ℕ → ℕ → ℕ → Type 0
Leads fixed zero frame last = frame ≡ last
Leads fixed (suc level) frame last =
    (next : ℕ) × (slice_get fixed frame ≡ Some (Some (Number (pos next)))) × (next < length fixed) × Leads fixed level next last

-- the machine finds that frame
pub base_is : (fixed : Fixed) (cells : List Cell) (level frame last : ℕ) → Keeps fixed cells → length fixed ≤ length cells → Leads fixed level frame last
    → base level frame cells ≡ Ok last
base_is fixed cells zero frame last keeps few l = ap (λ n. Ok n) l
base_is fixed cells (suc level) frame last keeps few l =
    let next = l.0 in
    let inside = l.2 in
    ap (λ o. (number o >>= λ link. address_of link (length cells)) >>= λ n. base level n cells) (keeps.each frame (Number (pos next)) l.1)
    ∙ ap (λ t. (if t then Ok next else Err OutOfBounds) >>= λ n. base level n cells) (lt-ltb next (length cells) (omega arith))
    ∙ base_is fixed cells level next last keeps few l.3

-- fewer links lead to a frame on the way
pub leads_split : (fixed : Fixed) (first rest frame last : ℕ) → Leads fixed (first + rest) frame last
    → (way : ℕ) × Leads fixed first frame way × Leads fixed rest way last
leads_split fixed zero rest frame last l =
    let e : 0 + rest ≡ rest = omega arith in
    (frame, refl, subst (λ n. Leads fixed n frame last) e l)
leads_split fixed (suc first) rest frame last l =
    let e : suc first + rest ≡ suc (first + rest) = omega arith in
    let l' = subst (λ n. Leads fixed n frame last) e l in
    let others = leads_split fixed first rest l'.0 last l'.3 in
    (others.0, (l'.0, l'.1, l'.2, others.1), others.2)

-- a way and another from its end
pub leads_join : (fixed : Fixed) (first rest frame way last : ℕ) → Leads fixed first frame way → Leads fixed rest way last
    → Leads fixed (first + rest) frame last
leads_join fixed zero rest frame way last l m =
    let e : rest ≡ 0 + rest = omega arith in
    subst (λ f. Leads fixed (0 + rest) f last) (sym l) (subst (λ n. Leads fixed n way last) e m)
leads_join fixed (suc first) rest frame way last l m =
    let e : suc (first + rest) ≡ suc first + rest = omega arith in
    subst (λ n. Leads fixed n frame last) e (l.0, l.1, l.2, leads_join fixed first rest l.0 way last l.3 m)

-- they lead to one frame
pub leads_once : (fixed : Fixed) (level frame last other : ℕ) → Leads fixed level frame last → Leads fixed level frame other → last ≡ other
leads_once fixed zero frame last other l m = sym l ∙ m
leads_once fixed (suc level) frame last other l m =
    let same : Some (Some (Number (pos l.0))) ≡ Some (Some (Number (pos m.0))) = sym l.1 ∙ m.1 in
    let next : l.0 ≡ m.0 = cc in
    leads_once fixed level m.0 last other (subst (λ n. Leads fixed level n last) next l.3) m.3

-- they lead there over more cells too
pub leads_above : (fixed more : Fixed) (level frame last : ℕ) → Leads fixed level frame last → Leads (fixed ++ more) level frame last
leads_above fixed more zero frame last l = l
leads_above fixed more (suc level) frame last l =
    let inside = l.2 in (
      l.0,
      slice_get-front fixed more frame (Some (Number (pos l.0))) l.1,
      omega (arith, length-append fixed more),
      leads_above fixed more level l.0 last l.3,
    )

-- and it is one of the cells
pub leads_within : (fixed : Fixed) (level frame last : ℕ) → frame < length fixed → Leads fixed level frame last → last < length fixed
leads_within fixed zero frame last inside l = omega (arith, l)
leads_within fixed (suc level) frame last inside l = leads_within fixed level l.0 last l.2 l.3
