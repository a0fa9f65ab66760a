-- Stripped code: the code without its checks at sites that aren't open, its jumps moved. It does not say when a check
-- may be taken out: that it never stops a run is for the reader of the open sites to know.
use Rattle.std.specs.Prelude.{◌≡◌, ℕ, ◌==◌, Bool, true, List, Some, map, filter, take, count_by}
use Rattle.std.specs.Prelude.{slice_get}
use Rattle.std.specs.List.{list_any}
use Rattle.std.specs.Option.{option_map_or}
use Rattle.pcode_assembler.specs.declared.code.Site.{Site}
use Rattle.pcode_assembler.specs.declared.instr.Instr.{Instr}
use Rattle.pcode_assembler.specs.declared.instr.Instr.TheVariants as instr
pub use Rattle.pcode_assembler.specs.Writable.{check_site}

-- whether one of these sites has the id
abbrev pub is_among : List Site → ℕ → Bool
is_among sites id = list_any (λ site. site.id == id) sites

-- whether an instruction stays: no check, or the check of an open site
abbrev pub stays : (ℕ → Bool) → Instr → Bool
stays is_open i = option_map_or is_open (check_site i) true

-- where a jump to this place goes: as far as so many instructions before it stay
abbrev pub moved_place : (ℕ → Bool) → List Instr → ℕ → ℕ
moved_place is_open code place = count_by (stays is_open) (take place code)

-- the instruction with its jump moved
abbrev pub moved : (ℕ → ℕ) → Instr → Instr
moved to (instr.Jump target) = instr.Jump (to target)
moved to (instr.JumpIfFalse target) = instr.JumpIfFalse (to target)
moved to (instr.CallProcedure length target) = instr.CallProcedure length (to target)
moved to i = i

-- the instructions that stay, their jumps moved
abbrev pub strip_by : (ℕ → Bool) → List Instr → List Instr
strip_by is_open code = map (moved (moved_place is_open code)) (filter (stays is_open) code)

-- the code without the checks of sites that aren't open
abbrev pub strip : List Site → List Instr → List Instr
strip open_sites code = strip_by (is_among open_sites) code

-- each instruction that stays is found where a jump to it goes, its own jump moved
abbrev pub KeepsInstructions : List Site → List Instr → List Instr → Type 0
KeepsInstructions open_sites code stripped =
    (place : ℕ) (i : Instr) → slice_get code place ≡ Some i → stays (is_among open_sites) i ≡ true
    → slice_get stripped (moved_place (is_among open_sites) code place)
    ≡ Some (moved (moved_place (is_among open_sites) code) i)
