-- The table of loops: what is met behind statements, one after another, and behind loops.
use Rattle.std.proofs.Common.{◌≡◌, ℕ, Option, None, ◌+◌, ◌<◌, ◌≤◌, List, [], ◌∷◌, ◌++◌, length, map, drop, set, get_or, sym, ap, ap₂, ◌∙◌}
use Rattle.std.proofs.Common.{append-nil, append_assoc}
use Rattle.std.proofs.lemmas.List.{map-append, map-set, drop_more, at_drop_all}
use Rattle.std.proofs.Math.Seq.{set-append_seam, drop-append_seam}
use Rattle.typed_tree.specs.declared.tree.Loop.{Loop}
use Rattle.typed_tree.specs.declared.tree.Stmt.{Stmt}
use Rattle.typed_tree.specs.Loops.{Inside, LoopControls, no_loop, both_inside, all_inside, looped, inside_of}
use Rattle.typed_tree.specs.Loops.{controlled as controlled_inside}
use Rattle.typed_tree.proofs.Insides.{inside_empty, inside_assign, inside_call, inside_copy, inside_write, inside_compound, inside_if, inside_if_else}
use Rattle.typed_tree.proofs.Insides.{inside_read, inside_while}
use Rattle.typed_tree.proofs.Insides.{inside_repeat, inside_for, inside_case, inside_with}
use Rattle.resolver.specs.Table.{Seen, Meets, seen, row_of, rows_of, meets, controlled, opened, closed, untold}
use Rattle.resolver.specs.declared.table.Met.{Met}

pub meets_none : (s : Seen) → s ≡ meets no_loop s
meets_none s = sym (ap₂ (λ r c. record { block = s.block; rows = r; controls = c }) (append-nil s.rows) (append-nil s.controls))

pub meets_both : (a b : Inside) (s : Seen) → meets b (meets a s) ≡ meets (both_inside a b) s
meets_both a b s =
    ap₂ (λ r c. record { block = s.block; rows = r; controls = c })
    (append_assoc s.rows (rows_of s.block a.loops) (rows_of s.block b.loops)
    ∙ ap (λ l. s.rows ++ l) (sym (map-append (λ one. (s.block, one.1)) a.loops b.loops)))
    (append_assoc s.controls a.controls b.controls)

pub meets_looped : (own : Option ℕ) (loop_number : ℕ) (inside : Inside) (s : Seen)
    → closed own (length s.rows) (length s.controls) (meets inside (opened s)) ≡ meets (looped own loop_number inside) s
meets_looped own loop_number inside s =
    let told : List ℕ → LoopControls = λ c. record { own = own; inside = c } in
    ap (λ r. record { block = s.block; rows = r; controls = s.controls ++ inside.controls })
    (ap₂ (λ r c. set r (length s.rows) (s.block, told c)) (append_assoc s.rows ((s.block, untold) ∷ []) (rows_of s.block inside.loops))
    (drop-append_seam s.controls inside.controls)
    ∙ set-append_seam s.rows (s.block, untold) (rows_of s.block inside.loops) (s.block, told inside.controls))

pub meets_controlled : (control : ℕ) (inside : Inside) (s : Seen) → meets inside (controlled control s) ≡ meets (controlled_inside control inside) s
meets_controlled control inside s =
    ap (λ c. record { block = s.block; rows = s.rows ++ rows_of s.block inside.loops; controls = c }) (append_assoc s.controls (control ∷ []) inside.controls)

-- a row is told
pub row_told : (rows : List Loop) (row : ℕ) (told : Loop) → map row_of (set rows row told) ≡ set (map row_of rows) row (row_of told)
row_told rows row told = map-set row_of rows row told

-- one step, and then another
pub then_meets : (first second both : Seen → Seen) → ((s : Seen) → second (first s) ≡ both s) → (old now new : Met) → Meets first old now
    → Meets second now new → Meets both old new
then_meets first second both are old now new begins ends not_short =
    let last = ends not_short in
    let before = begins last.0 in
    (before.0, last.1 ∙ ap second before.1 ∙ are (seen old))

-- a loop is met, from where it begins to where it ends
pub loop_met : (own : Option ℕ) (loop_number : ℕ) (inside : Inside) (old now there new : Met) (row start : ℕ) → Meets opened old now
    → row ≡ length (seen old).rows → start ≡ length old.controls.items → Meets (meets inside) now there → Meets (closed own row start) there new
    → Meets (meets (looped own loop_number inside)) old new
loop_met own loop_number inside old now there new row start begins is from met ends not_short =
    let last = ends not_short in
    let middle = met last.0 in
    let first = begins middle.0 in (
      first.0,
      last.1 ∙ ap₂ (λ r c. closed own r c (seen there)) is from
          ∙ ap (closed own (length (seen old).rows) (length old.controls.items)) (middle.1 ∙ ap (meets inside) first.1)
          ∙ meets_looped own loop_number inside (seen old),
    )

-- statements that are met one after another
module _ (statements : List Stmt) (old : Met) where
  -- what is left, once some are met
  abbrev pub IsLeftFrom : ℕ → Met → Type 0
  IsLeftFrom i now =
      now.refused ≡ None → (old.refused ≡ None)
      × (meets (all_inside (map inside_of statements)) (seen old) ≡ meets (all_inside (map inside_of (drop i statements))) (seen now))

  pub next_met : (i : ℕ) (next : Stmt) (now new : Met) → i < length statements → next ≡ get_or statements i next → IsLeftFrom i now
      → Meets (meets (inside_of next)) now new → IsLeftFrom (i + 1) new
  next_met i next now new within is left met not_short =
      let last = met not_short in
      let before = left last.0 in (
        before.0,
        before.1
            ∙ ap (λ l. meets (all_inside (map inside_of l)) (seen now)) (drop_more statements i next within)
            ∙ ap (λ s. meets (all_inside (map inside_of (s ∷ drop (i + 1) statements))) (seen now)) (sym is)
            ∙ sym (meets_both (inside_of next) (all_inside (map inside_of (drop (i + 1) statements))) (seen now))
            ∙ ap (meets (all_inside (map inside_of (drop (i + 1) statements)))) (sym last.1),
      )

  pub all_met : (i : ℕ) (now : Met) → length statements ≤ i → IsLeftFrom i now → Meets (meets (all_inside (map inside_of statements))) old now
  all_met i now all left not_short =
      let before = left not_short in (
        before.0,
        meets_none (seen now)
            ∙ sym (before.1 ∙ at_drop_all (λ l. meets (all_inside (map inside_of l)) (seen now)) statements i all),
      )

-- what stands inside each form, and what is met behind it
pub ruleset met_forms = (
  inside_empty,
  inside_assign,
  inside_copy,
  inside_read,
  inside_write,
  inside_call,
  inside_compound,
  inside_if,
  inside_if_else,
  inside_while,
  inside_repeat,
  inside_for,
  inside_case,
  inside_with,
  meets_none,
  meets_both,
  meets_looped,
  meets_controlled,
)

-- a block is met
pub block_met : (inside : Inside) (old new : Seen) → new ≡ meets inside old → new.rows ≡ old.rows ++ rows_of old.block inside.loops
block_met inside old new is = ap (λ (s : Seen). s.rows) is
