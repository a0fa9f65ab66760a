use Rattle.std.proofs.Common.{◌-◌}
use Rattle.code_scheme.specs.Code.{release_code}
use Rattle.code_emitter.specs.Emitted.{place_of}
use Rattle.code_emitter.proofs.Emitted.{Left}
use Rattle.code_emitter.proofs.with.emit_release.Given as goal

abbrev pub invariant-loop : goal.invariant-loop
invariant-loop l =
    Left l.initial.code l.code (release_code (l.records - l.counter) (place_of l.code)) (release_code l.records (place_of l.initial.code))
