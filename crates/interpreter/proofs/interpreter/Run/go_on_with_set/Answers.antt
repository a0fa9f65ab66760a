use Rattle.std.proofs.Common.{◌≡◌, reverse, rules}
use Rattle.std.specs.Result.{result_map_both}
use Rattle.meaning.specs.declared.value.Value.TheVariants.{Members}
use Rattle.interpreter.specs.Pending.{operands_of, pending_of}
use Rattle.interpreter.proofs.Given.{set_given}
use Rattle.interpreter.proofs.Resuming.{continues_as}
use Rattle.interpreter.proofs.interpreter.Run.go_on_with_set.Goals as goal

pub returns-clause-does : goal.returns-clause-does
returns-clause-does c = λ env outer s agrees.
    let old = c.args.self.now in
    let value : c.map.result ≡ result_map_both Members (λ site. site) c.args.set = search rules in
    continues_as env outer old c.go_on.new.self _ _ c.go_on.result
    (set_given c.args.set c.map.result (pending_of env outer (reverse old.pending.items)) (operands_of old) s value)
    (c.go_on.ensures.does env outer s agrees)
