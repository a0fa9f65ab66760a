-- Parts of variables: a place of an array or a record, all of whose scalar components lie one behind another from a cell
-- on. Each selector leads from such a part to another one. It says nothing of what the components hold.
use Rattle.code_generator.proofs.Words.{◌≡◌, ℕ, zero, suc, ◌+◌, ◌*◌, ◌≤◌, List, [], ◌∷◌, ◌++◌, Option, Some, None, refl, sym, ap, ◌∙◌, subst, arith, inr}
use Rattle.code_generator.proofs.Words.{append-nil, append_assoc, slice_get, ℤ, pos, ◌-ℤ◌, ◌&&◌, nat_eq, option_and_then, and_parts, eqb-true, none-some}
use Rattle.code_generator.proofs.Words.{slice_get_within, Form, TypeId, components_of, cells_of, RangeTest, Place}
use Rattle.std.proofs.Common.{◌≤ℤ◌}
use Rattle.std.specs.Prelude.{true}
use Rattle.std.specs.Option.{option_map}
use Rattle.std.specs.Ordering.{int_eq}
use Rattle.std.proofs.lemmas.Bool.Decides.{Decides-int_eq}
use Rattle.std.proofs.lemmas.Option.{cond_some, slice_get-get_or}
use Rattle.types.specs.declared.form.ArrayElement.{ArrayElement}
use Rattle.types.specs.declared.form.OrdinalRange.{OrdinalRange}
use Rattle.types.specs.declared.form.RecordField.{RecordField}
use Rattle.types.specs.declared.form.Step.{Step}
use Rattle.types.specs.declared.form.Step.TheVariants.{Element, Field}
use Rattle.types.specs.Components.{Steps}
use Rattle.types.specs.Laws.{HasElements, HasField}
use Rattle.types.specs.Types.{element_of, field_at, is_scalar}
use Rattle.typed_tree.specs.declared.tree.Selector.{Selector}
use Rattle.typed_tree.specs.declared.tree.Selector.TheVariants as selector
use Rattle.typed_tree.specs.Accesses.{are_values_of, element_type, field_type, selected, led}
use Rattle.typed_tree.specs.WellFormed.{Outline}
use Rattle.meaning.specs.Kinds.{type_at}
use Rattle.code_generator.specs.Known.{Known}
use Rattle.code_generator.proofs.Alike.{Activation, World, LiesIn}
use Rattle.code_generator.proofs.Scalars.{type_inside}

-- a place with more steps behind its own
abbrev pub inner : Place → Steps → Place
inner p steps = record p { steps = p.steps ++ steps }

-- the scalar components of a place, told by the steps that lead to them, lie one behind another from this cell on
pub record LiesFrom (world : World) (p : Place) (components : List Steps) (cell : ℕ) : Type 0 where
  pub each : (k : ℕ) (steps : Steps) → slice_get components k ≡ Some steps → LiesIn world (inner p steps) (cell + k)

-- steps behind others
pub inner_twice : (p : Place) (steps more : Steps) → inner (inner p steps) more ≡ inner p (steps ++ more)
inner_twice p steps more = ap (λ all. record p { steps = all }) (append_assoc p.steps steps more)

-- a place of one component is a scalar
pub scalar_lies : (world : World) (p : Place) (cell : ℕ) → LiesFrom world p ([] ∷ []) cell → LiesIn world p cell
scalar_lies world p cell from =
    let e : cell + 0 ≡ cell = omega arith in
    subst (LiesIn world p) e (subst (λ steps. LiesIn world (record p { steps = steps }) (cell + 0)) (append-nil p.steps) (from.each 0 [] refl))

-- components behind a step lie from further on
pub step_lies : (world : World) (p : Place) (whole part : List Steps) (cell offset : ℕ) (step : Step)
    → ((k : ℕ) (steps : Steps) → slice_get part k ≡ Some steps → slice_get whole (offset + k) ≡ Some (step ∷ steps)) → LiesFrom world p whole cell
    → LiesFrom world (inner p (step ∷ [])) part (cell + offset)
step_lies world p whole part cell offset step among from = record {
  each = λ k steps at.
      let e : cell + (offset + k) ≡ cell + offset + k = omega arith in
      subst (λ q. LiesIn world q (cell + offset + k)) (sym (inner_twice p (step ∷ []) steps))
      (subst (LiesIn world (inner p (step ∷ steps))) e (from.each (offset + k) (step ∷ steps) (among k steps at)));
}

-- what a selector of an element says of its types
pub record IsElement (types : List Form) (range : OrdinalRange) (cells : ℕ) (t part : TypeId) : Type 0 where
  pub element : ArrayElement
  pub found : element_of types t ≡ Some element
  pub first : range.first ≡ element.range.first
  pub last : range.last ≡ element.range.last
  pub cells_are : cells ≡ element.cells
  pub type_is : element.type_id ≡ part

-- the same of a field
pub record IsFieldOf (types : List Form) (position offset : ℕ) (t part : TypeId) : Type 0 where
  pub field : RecordField
  pub found : field_at types t position ≡ Some field
  pub offset_is : offset ≡ field.offset
  pub type_is : field.type_id ≡ part

module _ (types : List Form) (t part : TypeId) where
  selected_element : (range : OrdinalRange) (cells : ℕ) (o : Option ArrayElement) → element_of types t ≡ o → element_type range cells o ≡ Some part
      → IsElement types range cells t part
  selected_element range cells None found e = absurd (none-some part e)
  selected_element range cells (Some element) found e =
      let own = cond_some (are_values_of range element.range && nat_eq cells element.cells) element.type_id part e in
      let parts = and_parts (are_values_of range element.range) (nat_eq cells element.cells) own.0 in
      let bounds = and_parts (int_eq range.first element.range.first) (int_eq range.last element.range.last) parts.0 in
      record {
        element = element;
        found = found;
        first = (Decides-int_eq range.first element.range.first).0 bounds.0;
        last = (Decides-int_eq range.last element.range.last).0 bounds.1;
        cells_are = eqb-true cells element.cells parts.1;
        type_is = own.1;
      }

  pub is_element : (fits : RangeTest) (cells : ℕ) → selected types (selector.Element fits cells) t ≡ Some part → IsElement types fits.range cells t part
  is_element fits cells e = selected_element fits.range cells (element_of types t) refl e

  selected_field : (position offset : ℕ) (o : Option RecordField) → field_at types t position ≡ o → field_type offset o ≡ Some part
      → IsFieldOf types position offset t part
  selected_field position offset None found e = absurd (none-some part e)
  selected_field position offset (Some field) found e =
      let own = cond_some (nat_eq offset field.offset) field.type_id part e in
      record { field = field; found = found; offset_is = eqb-true offset field.offset own.0; type_is = own.1 }

  pub is_field_of : (position offset : ℕ) → selected types (selector.Field position offset) t ≡ Some part → IsFieldOf types position offset t part
  is_field_of position offset e = selected_field position offset (field_at types t position) refl e

-- where the first of several selectors leads
pub led_on : (types : List Form) (s : Selector) (selectors : List Selector) (t last : TypeId) → led types (s ∷ selectors) t ≡ Some last
    → (part : TypeId) × (selected types s t ≡ Some part) × (led types selectors part ≡ Some last)
led_on types s selectors t last e = by (selected types s t) refl e
  where
    by : (o : Option TypeId) → selected types s t ≡ o → option_and_then (led types selectors) o ≡ Some last
        → (part : TypeId) × (selected types s t ≡ Some part) × (led types selectors part ≡ Some last)
    by None is e = absurd (none-some last e)
    by (Some part) is e = (part, is, e)

module _ (outline : Outline) (world : World) (end : ℕ) where
  abbrev types : List Form
  types = outline.types

  -- the part of a place that is of a type lies from a cell on, and ends before another; it has no more cells than a type
  pub record IsPart (p : Place) (t : TypeId) (cell : ℕ) : Type 0 where
    pub from : LiesFrom world p (components_of types t) cell
    pub within : cell + cells_of types t ≤ end
    pub few : cells_of types t ≤ 65536
    pub typed : type_at outline p ≡ Some t

  -- an ordinal or a set is a scalar
  pub scalar_part : (known : Known) (p : Place) (t : TypeId) (cell : ℕ) → is_scalar types t ≡ true → IsPart p t cell → LiesIn world p cell
  scalar_part known p t cell scalar part =
      scalar_lies world p cell (subst (λ components. LiesFrom world p components cell) (known.scalars types t scalar) part.from)

  -- the element at an index
  module _ (known : Known) (p : Place) (t : TypeId) (cell : ℕ) (e : ArrayElement) (found : element_of types t ≡ Some e) (index : ℤ)
      (low : e.range.first ≤ℤ index) (high : index ≤ℤ e.range.last) (n : ℕ) (counts : pos n ≡ index -ℤ e.range.first) (part : IsPart p t cell) where
    own : HasElements types t e
    own = known.elements types t e found

    among : (k : ℕ) (steps : Steps) → slice_get (components_of types e.type_id) k ≡ Some steps
        → slice_get (components_of types t) (n * e.cells + k) ≡ Some (Element index ∷ steps)
    among k steps at =
        let inside = slice_get_within (components_of types e.type_id) k steps at in
        let many = known.cells types e.type_id in
        let same = own.cells in
        own.components index n k low high counts (omega arith) ∙ ap (option_map (λ rest. Element index ∷ rest)) at

    -- it has as many cells as are told, and ends within the array
    ends_inside : (cells : ℕ) → e.cells ≡ cells → n * e.cells + cells_of types e.type_id ≤ cells_of types t
    ends_inside zero is =
        let none : n * e.cells ≡ n * 0 = ap (λ c. n * c) is in
        let same = own.cells in
        omega arith
    ends_inside (suc m) is =
        let same = own.cells in
        let many = known.cells types e.type_id in
        let last = slice_get-get_or (components_of types e.type_id) m [] (omega arith) in
        let inside = slice_get_within (components_of types t) (n * e.cells + m) _ (among m _ last) in
        let all = known.cells types t in
        omega arith

    pub element_part : IsPart (inner p (Element index ∷ [])) e.type_id (cell + n * e.cells)
    element_part = record {
      from = step_lies world p (components_of types t) (components_of types e.type_id) cell (n * e.cells) (Element index) among part.from;
      within = (let inside = ends_inside e.cells refl in let all = part.within in omega arith);
      few = (let inside = ends_inside e.cells refl in let all = part.few in omega arith);
      typed = type_inside outline p t (Element index ∷ []) part.typed ∙ ap (λ o. option_and_then (λ id. Some id) (option_map (λ x. x.type_id) o)) found;
    }

  -- the field at a position
  module _ (known : Known) (p : Place) (t : TypeId) (cell position : ℕ) (f : RecordField) (found : field_at types t position ≡ Some f)
      (part : IsPart p t cell) where
    own_field : HasField types t position f
    own_field = known.fields types t position f found

    field_among : (k : ℕ) (steps : Steps) → slice_get (components_of types f.type_id) k ≡ Some steps
        → slice_get (components_of types t) (f.offset + k) ≡ Some (Field position ∷ steps)
    field_among k steps at =
        let inside = slice_get_within (components_of types f.type_id) k steps at in
        let many = known.cells types f.type_id in
        own_field.components k (omega arith) ∙ ap (option_map (λ rest. Field position ∷ rest)) at

    pub field_part : IsPart (inner p (Field position ∷ [])) f.type_id (cell + f.offset)
    field_part = record {
      from = step_lies world p (components_of types t) (components_of types f.type_id) cell f.offset (Field position) field_among part.from;
      within = (let inside = own_field.ends in let all = part.within in omega arith);
      few = (let inside = own_field.ends in let all = part.few in omega arith);
      typed = type_inside outline p t (Field position ∷ []) part.typed ∙ ap (λ o. option_and_then (λ id. Some id) (option_map (λ x. x.type_id) o)) found;
    }

-- a part of an older world lies in one with an activation more too, below a later end
pub part_above : (outline : Outline) (a : Activation) (world : World) (end later : ℕ) (p : Place) (t : TypeId) (cell : ℕ) → end ≤ later
    → IsPart outline world end p t cell → IsPart outline (a ∷ world) later p t cell
part_above outline a world end later p t cell le part =
    let inside = part.within in
    record {
      from = record {
        each = λ k steps at.
            let l = part.from.each k steps at in
            record { owner = l.owner; lives = inr l.lives; lies = l.lies };
      };
      within = omega arith;
      few = part.few;
      typed = part.typed;
    }

-- it ends before a later cell too, and where its own cells do
pub part_later : (outline : Outline) (world : World) (end later : ℕ) (p : Place) (t : TypeId) (cell : ℕ) → end ≤ later → IsPart outline world end p t cell
    → IsPart outline world later p t cell
part_later outline world end later p t cell le part =
    let inside = part.within in
    record { from = part.from; within = omega arith; few = part.few; typed = part.typed }

pub part_up_to : (outline : Outline) (world : World) (end : ℕ) (p : Place) (t : TypeId) (cell : ℕ) → IsPart outline world end p t cell
    → IsPart outline world (cell + cells_of outline.types t) p t cell
part_up_to outline world end p t cell part = record { from = part.from; within = omega arith; few = part.few; typed = part.typed }
