-- What many of these proofs cite of the libraries, under one name.
pub use Rattle.check_remover.specs.Strip.{moved}
pub use Rattle.code_scheme.proofs.Pieces.{start_within}
pub use Rattle.code_scheme.specs.Code.{expr_code, routines_of}
pub use Rattle.code_scheme.specs.Depth.{block_depth, expr_depth}
pub use Rattle.code_scheme.specs.Need.{living_need}
pub use Rattle.code_scheme.specs.Scopes.{Scope, block_scope, called_routine, cells_where, count, is_parameter_of, links_to, other_cells, parameter_cells}
pub use Rattle.code_scheme.specs.Scopes.{row_length, slot_cells, variable_home}
pub use Rattle.code_scheme.specs.declared.home.Home.{Home}
pub use Rattle.meaning.specs.Effect.{Action, Gives, Reply, give, number_of, require, ◌>>=◌}
pub use Rattle.meaning.specs.Laws.{UsesTurnsExactly}
pub use Rattle.meaning.specs.Meaning.{Argument, OfPlace, OfRow, OfValue, value_of}
pub use Rattle.meaning.specs.Store.{Place, stored}
pub use Rattle.meaning.specs.declared.outcome.Ending.{Ending}
pub use Rattle.meaning.specs.declared.value.Value.{Value}
pub use Rattle.pcode_assembler.specs.declared.instr.Instr.{Instr}
pub use Rattle.stack_machine.specs.Deeds.{deed_of}
pub use Rattle.stack_machine.specs.Frames.{Attempt, Frames, is_true}
pub use Rattle.stack_machine.specs.Machine.{State}
pub use Rattle.stack_machine.specs.declared.cell.Cell.{Cell}
pub use Rattle.stack_machine.specs.declared.cell.Cell.TheVariants.{Number, Undefined}
pub use Rattle.std.proofs.Common.{Bool, Err, List, None, Ok, Option, Some, [], ap, append-nil, append_assoc, arith, drop, eq-eqb, false, inl, inr, length}
pub use Rattle.std.proofs.Common.{length-append, map, max, refl, replicate, subst, suc, sym, take, true, zero, ℕ, ⊎_elim, ◌*◌, ◌++◌, ◌+◌, ◌-◌, ◌<◌, ◌∙◌, ◌∷◌}
pub use Rattle.std.proofs.Common.{◌≡◌, ◌≤◌, ◌⊎◌}
pub use Rattle.std.proofs.Math.Seq.{drop-append_seam}
pub use Rattle.std.proofs.lemmas.Bool.{and_parts, cases_lt, eqb-true, false≢true, lt-ltb, ltb-true}
pub use Rattle.std.proofs.lemmas.List.{length-map}
pub use Rattle.std.proofs.lemmas.List.Sums.{sum_by-cons}
pub use Rattle.std.proofs.lemmas.Option.{none-some, same_Some, slice_get_within}
pub use Rattle.std.specs.Int.{w32}
pub use Rattle.std.specs.List.{list_all}
pub use Rattle.std.specs.Option.{option_and_then}
pub use Rattle.std.specs.Prelude.{if◌then◌else◌, int_le, nat_eq, nat_lt, not, pos, slice_get, slice_set, ℤ, ◌&&◌, ◌-ℤ◌, ◌||◌}
pub use Rattle.typed_tree.specs.WellFormed.{IsWellFormed, all_hold, heading_of, is_parameter_kind, is_variable_kind, is_well_formed_expr, roots_where}
pub use Rattle.typed_tree.specs.declared.tree.Block.{Block}
pub use Rattle.typed_tree.specs.declared.tree.Expr.{Expr}
pub use Rattle.typed_tree.specs.declared.tree.RangeTest.{RangeTest}
pub use Rattle.typed_tree.specs.declared.tree.Tree.{Tree}
pub use Rattle.typed_tree.specs.declared.tree.Variable.{Variable}
pub use Rattle.typed_tree.specs.declared.tree.VariableKind.{VariableKind}
pub use Rattle.types.specs.Components.{components_of}
pub use Rattle.types.specs.Forms.{Form}
pub use Rattle.types.specs.Types.{cells_of, is_ordinal}
pub use Rattle.types.specs.declared.form.TypeId.{TypeId}
