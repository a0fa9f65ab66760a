use Rattle.std.proofs.Common.{◌≡◌, Ok, arith, of_z, pos, refl, rules, to_z, w32, ◌∙◌}
use Rattle.std.proofs.lemmas.Int.{to_z-of_z}
use Rattle.std.proofs.lemmas.Result.{err_from_is_err_and}
use Rattle.text_input.specs.Input.{read_character, read_eoln, read_line}
use Rattle.run_ports.specs.Wanted.{one_if, read_with}
use Rattle.run_ports.proofs.Peeked.{End-stops, End-told}
use Rattle.run_ports.proofs.Reading.{With-stops, With-told}
use Rattle.run_ports.proofs.Taken.{Looked-as, Looked-stops, Taken-as, Taken-stops, line_end_told}
use Rattle.run_ports.proofs.ports.RunPorts.read.Goals as goal

pub returns-in-Integer-clause-reads : goal.returns-in-Integer-clause-reads
returns-in-Integer-clause-reads g c = rw c.in-Integer.is c.read_integer.ensures.reads

pub returns-in_err-next_byte-in-Character-clause-reads : goal.returns-in_err-next_byte-in-Character-clause-reads
returns-in_err-next_byte-in-Character-clause-reads g c =
    let p = err_from_is_err_and c.from_residual.result c.from_residual.ensures.1 in
    rw (p.1, p.2, c.in-Character.is) (Taken-stops (λ xs. read_with pos (read_character xs)) _ _ _ _ _ _ _ refl c.in_err-next_byte-in-Character.ensures.reads)

pub returns-in_ok-next_byte-in-Character-clause-reads : goal.returns-in_ok-next_byte-in-Character-clause-reads
returns-in_ok-next_byte-in-Character-clause-reads g c =
    let told = c.character_of.ensures in
    rw c.in-Character.is
    (Taken-as (λ xs. read_with pos (read_character xs)) c.in_ok-next_byte-in-Character.field-0 c.character_of.result _ _ _ _ _ _ refl told.no_failure.0
    told.no_failure.1 told.value c.in_ok-next_byte-in-Character.ensures.reads)

pub returns-in_ok-next_byte-in-Character-clause-read_failures : goal.returns-in_ok-next_byte-in-Character-clause-read_failures
returns-in_ok-next_byte-in-Character-clause-read_failures g c =
    omega (arith, c.in_ok-next_byte-in-Character.ensures.read_failures, c.character_of.ensures.no_failure.0)

pub returns-in_ok-next_byte-in-Character-clause-write_failures : goal.returns-in_ok-next_byte-in-Character-clause-write_failures
returns-in_ok-next_byte-in-Character-clause-write_failures g c =
    omega (arith, c.in_ok-next_byte-in-Character.ensures.write_failures, c.character_of.ensures.no_failure.1)

pub returns-in_err-look-in-LineEnd-clause-reads : goal.returns-in_err-look-in-LineEnd-clause-reads
returns-in_err-look-in-LineEnd-clause-reads g c =
    let p = err_from_is_err_and c.from_residual-in_err-look-in-LineEnd.result c.from_residual-in_err-look-in-LineEnd.ensures.1 in
    rw (p.1, p.2, c.in-LineEnd.is) (Looked-stops (λ xs. read_with one_if (read_eoln xs)) _ _ _ _ _ _ _ refl c.in_err-look-in-LineEnd.ensures.reads)

pub returns-in_ok-look-in-LineEnd-clause-reads : goal.returns-in_ok-look-in-LineEnd-clause-reads
returns-in_ok-look-in-LineEnd-clause-reads g c =
    let byte = c.in_ok-look-in-LineEnd.field-0 in
    let number : to_z w32 (of_z w32 c.from.result) ≡ c.from.result = search (rules, to_z-of_z) in
    rw c.in-LineEnd.is
    (Looked-as (λ xs. read_with one_if (read_eoln xs)) byte (Ok (to_z w32 (of_z w32 c.from.result))) _ _ _ _ _ _ refl refl refl
    (λ fails xs. line_end_told byte _ xs (number ∙ c.from.ensures)) c.in_ok-look-in-LineEnd.ensures.reads)

pub returns-in_err-pass_line-in-NextLine-clause-reads : goal.returns-in_err-pass_line-in-NextLine-clause-reads
returns-in_err-pass_line-in-NextLine-clause-reads g c =
    let p = err_from_is_err_and c.from_residual-in_err-pass_line-in-NextLine.result c.from_residual-in_err-pass_line-in-NextLine.ensures.1 in
    rw (p.1, p.2, c.in-NextLine.is) (With-stops (λ done. pos 0) (λ fails. read_line) _ _ _ _ _ _ _ c.in_err-pass_line-in-NextLine.ensures.reads)

pub returns-in_ok-pass_line-in-NextLine-clause-reads : goal.returns-in_ok-pass_line-in-NextLine-clause-reads
returns-in_ok-pass_line-in-NextLine-clause-reads g c =
    rw c.in-NextLine.is (With-told (λ done. pos 0) (λ fails. read_line) tt _ _ _ _ _ _ c.in_ok-pass_line-in-NextLine.ensures.reads)

pub returns-in_err-peek-in-End-clause-reads : goal.returns-in_err-peek-in-End-clause-reads
returns-in_err-peek-in-End-clause-reads g c =
    let p = err_from_is_err_and c.from_residual-in_err-peek-in-End.result c.from_residual-in_err-peek-in-End.ensures.1 in
    rw (p.1, p.2, c.in-End.is) (End-stops _ _ _ _ _ _ _ c.in_err-peek-in-End.ensures.reads)

pub returns-in_ok-peek-in-End-clause-reads : goal.returns-in_ok-peek-in-End-clause-reads
returns-in_ok-peek-in-End-clause-reads g c =
    let number : to_z w32 (of_z w32 c.from-in-End.result) ≡ c.from-in-End.result = search (rules, to_z-of_z) in
    rw c.in-End.is
    (End-told c.in_ok-peek-in-End.field-0 c.is_none.result (to_z w32 (of_z w32 c.from-in-End.result)) _ _ _ _ _ _ c.is_none.ensures
    (number ∙ c.from-in-End.ensures) c.in_ok-peek-in-End.ensures.reads)
