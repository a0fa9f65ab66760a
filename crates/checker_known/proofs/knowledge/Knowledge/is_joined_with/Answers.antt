use Rattle.std.proofs.Common.{Bool, ◌∙◌, sym}
use Rattle.checker_rows.specs.Rows.{indexes_at, rows_of}
use Rattle.checker_state.specs.State.{Held, joins}
use Rattle.checker_state.specs.View.{said_held}
use Rattle.checker_state.specs.declared.held.Group.TheVariants as group
use Rattle.checker_known.specs.Knowledge.{core, viewed}
use Rattle.checker_known.specs.View.{asked}
use Rattle.checker_known.proofs.InOrder.{any-here, inside-between, none-begin, none-more, none-there}
use Rattle.checker_state.proofs.HeldOrders.{joins-outside}
use Rattle.checker_known.proofs.knowledge.Knowledge.is_joined_with.Goals as goal

pub loop-place-init : goal.loop-place-init
loop-place-init g c =
    let known = viewed (core c.args.self.now) in
    let indexes = indexes_at (rows_of c.args.table.now) c.args.wanted.row in
    let wanted = asked g.A.Ask.asks g.B.Ask.asks c.args.wanted in
    let held = c.args.self.now.held.items in
    let test : Held → Bool = joins known indexes c.args.wanted.row wanted c.args.inside (said_held c.args.one.now) in
    none-begin test (group.Row c.args.wanted.row) (joins-outside known indexes c.args.wanted.row wanted c.args.inside (said_held c.args.one.now)) held
    c.places-first.result.0 c.places-first.result.1
    c.places-first.ensures.between

pub returns-then-joins : goal.returns-then-joins
returns-then-joins g c =
    let known = viewed (core c.args.self.now) in
    let indexes = indexes_at (rows_of c.args.table.now) c.args.wanted.row in
    let wanted = asked g.A.Ask.asks g.B.Ask.asks c.args.wanted in
    let held = c.args.self.now.held.items in
    let test : Held → Bool = joins known indexes c.args.wanted.row wanted c.args.inside (said_held c.args.one.now) in
    any-here test held c.loop-place.place c.index.result.now
    (inside-between held c.loop-place.place c.places-first.ensures.between c.loop-place-test.true) c.index.ensures
    (◌∙◌ {a = test (said_held c.index.result.now)} (sym {b = test (said_held c.index.result.now)} c.joins.ensures) c.if-joins.true)

pub loop-place-preserved : goal.loop-place-preserved
loop-place-preserved g c =
    let known = viewed (core c.args.self.now) in
    let indexes = indexes_at (rows_of c.args.table.now) c.args.wanted.row in
    let wanted = asked g.A.Ask.asks g.B.Ask.asks c.args.wanted in
    let held = c.args.self.now.held.items in
    let test : Held → Bool = joins known indexes c.args.wanted.row wanted c.args.inside (said_held c.args.one.now) in
    none-more test held c.loop-place.place c.index.result.now c.loop-place.invariant
    (inside-between held c.loop-place.place c.places-first.ensures.between c.loop-place-test.true) c.index.ensures
    (◌∙◌ {a = test (said_held c.index.result.now)} (sym {b = test (said_held c.index.result.now)} c.joins.ensures) c.if-joins.false)

pub returns : goal.returns
returns g c =
    let known = viewed (core c.args.self.now) in
    let indexes = indexes_at (rows_of c.args.table.now) c.args.wanted.row in
    let wanted = asked g.A.Ask.asks g.B.Ask.asks c.args.wanted in
    let held = c.args.self.now.held.items in
    let test : Held → Bool = joins known indexes c.args.wanted.row wanted c.args.inside (said_held c.args.one.now) in
    none-there test (group.Row c.args.wanted.row) (joins-outside known indexes c.args.wanted.row wanted c.args.inside (said_held c.args.one.now)) held
    c.places-first.result.0 c.places-first.result.1
    c.places-first.ensures.between c.loop-place.place c.loop-place.invariant c.loop-place-test.false
