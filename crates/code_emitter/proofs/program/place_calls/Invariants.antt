use Rattle.std.proofs.Common.{◌≡◌, ◌++◌, drop, map, take}
use Rattle.code_scheme.specs.Calls.{place_in, with_call}
use Rattle.code_emitter.proofs.program.place_calls.Given as goal

abbrev pub invariant-loop-place : goal.invariant-loop-place
invariant-loop-place l = l.code.items ≡ map (with_call (place_in l.places)) (take l.place l.initial.code.items) ++ drop l.place l.initial.code.items
