use Rattle.checker_trail.proofs.Meeting.{settle-moves}
use Rattle.std.proofs.Common.{◌≡◌, ◌∙◌, ap, List, filter, map}
use Rattle.checker_state.specs.declared.held.Held.{Held as KeptHeld}
use Rattle.checker_known.specs.declared.told.Arrival.{Arrival}
use Rattle.checker_known.specs.Told.{joined_at, said_at}
use Rattle.checker_state.specs.State.{gives}
use Rattle.checker_known.specs.Knowledge.{core, viewed}
use Rattle.checker_state.specs.State.{table_of}
use Rattle.checker_known.proofs.HeldLists.{said_all}
use Rattle.checker_trail.proofs.state.State.settle.Goals as goal

pub returns-clause-meets : goal.returns-clause-meets
returns-clause-meets c = λ there rows live there_live are_told alike.
    let table = table_of c.args.self.now.table.now in
    let known = viewed (core c.args.self.now.known) in
    let told = c.args.told.now in
    let more : said_all c.in-Ok.more.items ≡ filter (gives table known) (said_all told.held.items) =
    c.in-Ok.ensures ∙ ap (λ (held : List KeptHeld). filter (gives table known) (said_all held)) c.deref.ensures.value in
    let found : map said_at c.in-Ok-joined.rows.items ≡ map (joined_at table known) told.rows.items =
    c.in-Ok-joined.ensures ∙ ap (λ (some : List Arrival). map (joined_at table known) some) c.deref-2.ensures.value in
    settle-moves there rows told c.deref-3.result.now c.in-Ok.more.items c.deref-4.result.now c.in-Ok-joined.rows.items c.deref-5.result.now
    live there_live are_told alike more found c.deref-3.ensures.value c.deref-4.ensures.value c.deref-5.ensures.value
    c.retain.ensures c.hold_all.ensures c.set_rows.ensures
