-- Selectors that were read so far, by the selectors and the index expressions that a tree keeps of them.
use Rattle.std.proofs.Common.{◌≡◌, ◌<◌, Bool, true, false, List, [], ◌∷◌, ◌++◌, length, map, Some, None, Ok, Err, refl, sym, ap, subst, ◌∙◌}
use Rattle.std.proofs.Common.{append-nil, append_assoc}
use Rattle.std.proofs.lemmas.List.{map-append}
use Rattle.place.specs.declared.Place.{Place}
use Rattle.lexer.specs.declared.token.Token.{Token}
use Rattle.syntax_tree.specs.declared.Expr.{Expr}
use Rattle.syntax_tree.specs.declared.Name.{Name}
use Rattle.syntax_tree.specs.declared.Selector.{Selector}
use Rattle.syntax_tree.specs.declared.Selector.TheVariants.{Index, Field}
use Rattle.reading.specs.declared.refusal.Refusal.{Refusal}
use Rattle.reading.specs.Lexemes.{identifier}
use Rattle.reading.specs.Outline as form
use Rattle.reading.specs.Outline.{Outline}
use Rattle.reading.specs.Reading.{loop}
use Rattle.reading.specs.Trees.{expr_outline, selector_rows}
use Rattle.reading.specs.Expressions.{Below, selector, selectors}
use Rattle.reading.proofs.Uses.{NeverMore, selector_uses}
use Rattle.token_cursor.specs.declared.cursor.Cursor.{Cursor}
use Rattle.token_cursor.proofs.Turns.{Turns, turns_begin, turns_go, turns_end, turns_stop}
use Rattle.expression_parser.specs.Selecting.{Selects, index_outline, is_index}

-- ---- rows

abbrev pub put_before : List Outline → List Outline × Outline → List Outline × Outline
put_before front rows = (front ++ rows.0, rows.1)

-- the rows of these selectors and indexes, which stand before others, by whether brackets are open behind them
pub record RowsBefore (chosen : List Selector) (indexes : List Outline) (within : Bool) (front : List Outline) : Type 0 where
  pub each : (behind : List Selector) (others : List Outline)
      → selector_rows false (chosen ++ behind) (indexes ++ others) ≡ put_before front (selector_rows within behind others)

rows_begin : RowsBefore [] [] false []
rows_begin = record { each = λ behind others. refl }

regrouped : (front : List Outline) (one : Outline) (rows : List Outline × Outline)
    → put_before front (one ∷ rows.0, rows.1) ≡ put_before (front ++ one ∷ []) rows
regrouped front one rows = ap (λ xs. (xs, rows.1)) (sym (append_assoc front (one ∷ []) rows.0))

rows_field : (chosen : List Selector) (indexes : List Outline) (within : Bool) (front : List Outline) (name : Name) → RowsBefore chosen indexes within front
    → RowsBefore (chosen ++ Field name ∷ []) indexes false (front ++ form.field within (identifier name) ∷ [])
rows_field chosen indexes within front name before = record {
  each = λ behind others.
      ap (λ xs. selector_rows false xs (indexes ++ others)) (append_assoc chosen (Field name ∷ []) behind)
      ∙ before.each (Field name ∷ behind) others
      ∙ regrouped front (form.field within (identifier name)) (selector_rows false behind others);
}

index_row : (within joined : Bool) (place : Place) (index : Outline) (behind : List Selector) (others : List Outline)
    → selector_rows within (Index place joined ∷ behind) (index ∷ others)
    ≡ (index_outline within joined place index ∷ (selector_rows true behind others).0, (selector_rows true behind others).1)
index_row within true place index behind others = refl
index_row within false place index behind others = refl

rows_index : (chosen : List Selector) (indexes : List Outline) (within : Bool) (front : List Outline) (joined : Bool) (place : Place) (index : Outline)
    → RowsBefore chosen indexes within front
    → RowsBefore (chosen ++ Index place joined ∷ []) (indexes ++ index ∷ []) true (front ++ index_outline within joined place index ∷ [])
rows_index chosen indexes within front joined place index before = record {
  each = λ behind others.
      ap (λ xs. selector_rows false xs ((indexes ++ index ∷ []) ++ others)) (append_assoc chosen (Index place joined ∷ []) behind)
      ∙ ap (selector_rows false (chosen ++ Index place joined ∷ behind)) (append_assoc indexes (index ∷ []) others)
      ∙ before.each (Index place joined ∷ behind) (index ∷ others)
      ∙ ap (put_before front) (index_row within joined place index behind others)
      ∙ regrouped front (index_outline within joined place index) (selector_rows true behind others);
}

all_rows : (chosen : List Selector) (indexes : List Outline) (within : Bool) (front : List Outline) → RowsBefore chosen indexes within front
    → selector_rows false chosen indexes ≡ (front ++ [], form.closing within)
all_rows chosen indexes within front before =
    ap (λ xs. selector_rows false xs indexes) (sym (append-nil chosen)) ∙ ap (selector_rows false (chosen ++ [])) (sym (append-nil indexes))
    ∙ before.each [] []

-- ---- the loop of selectors

pub record SelectorsSoFar (inner : Below) (old : List Token) (chosen : List Selector) (indexes : List Expr) (within : Bool) (tokens : List Token) : Type
    0 where
  pub front : List Outline
  pub rows : RowsBefore chosen (map expr_outline indexes) within front
  pub turns : Turns (selectors inner old) front (loop (selector inner) within tokens)

pub selectors_begin : (inner : Below) (old : List Token) → SelectorsSoFar inner old [] [] false old
unfolding selectors
selectors_begin inner old = record { front = []; rows = rows_begin; turns = turns_begin (loop (selector inner) false old) }

module _ (inner : Below) (old : List Token) (chosen : List Selector) (indexes after : List Expr) (within : Bool) (tokens : List Token) (new : Cursor)
    (so_far : SelectorsSoFar inner old chosen indexes within tokens) where
  module _ (fewer : (at : _) → NeverMore (inner at)) where
    -- a selector more
    pub selectors_go : (s : Selector) → Selects within (selector inner within tokens) (Ok (Some s)) new indexes after
        → SelectorsSoFar inner old (chosen ++ s ∷ []) after (is_index s) new.rest.now
    selectors_go (Field name) is =
        let one = form.field within (identifier name) in record {
          front = so_far.front ++ one ∷ [];
          rows =
              subst (λ xs. RowsBefore (chosen ++ Field name ∷ []) (map expr_outline xs) false (so_far.front ++ one ∷ [])) (sym is.1)
              (rows_field chosen (map expr_outline indexes) within so_far.front name so_far.rows);
          turns = turns_go (selector inner) so_far.turns (selector_uses inner fewer) false one new.rest.now is.0;
        }
    selectors_go (Index place joined) is =
        let one = index_outline within joined place (expr_outline is.0) in record {
          front = so_far.front ++ one ∷ [];
          rows =
              subst (λ xs. RowsBefore (chosen ++ Index place joined ∷ []) xs true (so_far.front ++ one ∷ []))
              (sym (ap (map expr_outline) is.1 ∙ map-append expr_outline indexes (is.0 ∷ [])))
              (rows_index chosen (map expr_outline indexes) within so_far.front joined place (expr_outline is.0) so_far.rows);
          turns = turns_go (selector inner) so_far.turns (selector_uses inner fewer) true one new.rest.now is.2;
        }

    pub selectors_fewer : (s : Selector) → Selects within (selector inner within tokens) (Ok (Some s)) new indexes after
        → length new.rest.now < length tokens
    selectors_fewer (Field name) is = selector_uses inner fewer within false (form.field within (identifier name)) tokens new.rest.now is.0
    selectors_fewer (Index place joined) is =
        selector_uses inner fewer within true (index_outline within joined place (expr_outline is.0)) tokens new.rest.now is.2

  -- no selector more
  pub selectors_end : Selects within (selector inner within tokens) (Ok None) new indexes after
      → selectors inner old ≡ Ok (selector_rows false chosen (map expr_outline after), new.rest.now)
  selectors_end is =
      turns_end (selector inner) so_far.turns (form.closing within) new.rest.now is.0
      ∙ ap (λ rows. Ok (rows, new.rest.now)) (sym (all_rows chosen (map expr_outline indexes) within so_far.front so_far.rows))
      ∙ ap (λ xs. Ok (selector_rows false chosen (map expr_outline xs), new.rest.now)) (sym is.1)

  pub selectors_stop : (why : Refusal) → selector inner within tokens ≡ Err (why, new.rest.now) → selectors inner old ≡ Err (why, new.rest.now)
  selectors_stop why e = turns_stop (selector inner) so_far.turns (why, new.rest.now) e
