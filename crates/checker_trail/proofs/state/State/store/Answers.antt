use Rattle.std.proofs.Common.{Bool, Option, sym, ap, ◌∙◌, true}
use Rattle.checker_state.specs.declared.bound.Bound.{Bound}
use Rattle.checker_state.specs.declared.reach.Indexes.{Indexes}
use Rattle.checker_state.specs.Stores.{stored, stored_at, with_joined, with_some_element}
use Rattle.checker_trail.specs.Trail.{seen}
use Rattle.checker_state.specs.View.{said_form, said_indexes, said_reach}
use Rattle.checker_trail.proofs.Ways.{moves-as, moves-then}
use Rattle.checker_trail.proofs.state.State.store.Goals as goal

pub returns-in-Entire : goal.returns-in-Entire
returns-in-Entire c =
    let state = seen c.args.self.now in
    let row = c.args.row in
    let range = c.args.range in
    let indexes = c.args.reach.now.indexes in
    moves-as (stored (said_reach c.args.reach.now) row range) (moves-then c.set_range.ensures c.define.ensures)
    (ap (λ (kept : Indexes). stored_at true (said_indexes kept) row range state) (sym c.in-Entire.is)
    ∙ ap (λ (all : Bool). stored_at all (said_indexes indexes) row range state) (sym c.if-not-reach.false))

pub returns-in-Some : goal.returns-in-Some
returns-in-Some c =
    let state = seen c.args.self.now in
    let row = c.args.row in
    let range = c.args.range in
    let indexes = c.args.reach.now.indexes in
    moves-as (stored (said_reach c.args.reach.now) row range) (moves-then c.widen-in-One.ensures c.define_element.ensures)
    (ap (λ (form : Option Bound). with_some_element row (said_form form) (with_joined row range state)) (sym c.in-Some.is)
    ∙ ap (λ (kept : Indexes). stored_at true (said_indexes kept) row range state) (sym c.in-One.is)
    ∙ ap (λ (all : Bool). stored_at all (said_indexes indexes) row range state) (sym c.if-not-reach.false))

pub returns-in-Two : goal.returns-in-Two
returns-in-Two c =
    let state = seen c.args.self.now in
    let row = c.args.row in
    let range = c.args.range in
    let indexes = c.args.reach.now.indexes in
    moves-as (stored (said_reach c.args.reach.now) row range) (moves-then c.widen-in-Two.ensures c.define_both.ensures)
    (ap (λ (kept : Indexes). stored_at true (said_indexes kept) row range state) (sym c.in-Two.is)
    ∙ ap (λ (all : Bool). stored_at all (said_indexes indexes) row range state) (sym c.if-not-reach.false))
