use Rattle.checker_trail.proofs.Meeting.{been-there, meet-joins}
use Rattle.checker_trail.proofs.state.State.meet.Goals as goal

pub returns-clause-meets : goal.returns-clause-meets
returns-clause-meets c = λ start end marks way ends live end_live. record {
  unless_short = λ long5.
      let here = c.leave-here.result in
      let other = c.args.other.now in
      let long4 = c.settle.ensures.long long5 in
      let long3 = c.go-2.ensures.long long4 in
      let long2 = c.leave-there.ensures.long long3 in
      let long1 = c.go.ensures.long long2 in
      let been = been-there end here c.leave-there.result other way ends (c.leave-here.ensures.back start marks way) c.go.ensures.comes
      (c.leave-there.ensures.back start marks) c.go-2.ensures.comes long1 long2 long3 long4 in
      meet-joins end here other c.in-Ok.asked.held.items c.in-Ok-tell.told been (c.leave-here.ensures.long long1) live end_live ends
      c.in-Ok.ensures c.in-Ok-tell.ensures c.settle.ensures.meets long5;
}
