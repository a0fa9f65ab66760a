use Rattle.std.proofs.Common.{rules, ◌≡◌, ◌+◌, [], ◌∷◌, ◌++◌, drop, flat_map, length, min, Ok, subst, sym, length-append, arith}
use Rattle.std.proofs.lemmas.Slice.Zip.{zip_turn, zip_end}
use Rattle.typing.specs.Names.{formal_names}
use Rattle.typing.specs.Outcomes.{IsFault}
use Rattle.typing.specs.Passing.{after}
use Rattle.typing.specs.Routines.{parameter_kind, parameters_named}
use Rattle.declarations.specs.Known.{AreKnown}
use Rattle.declarations.proofs.HeadingForms.{ParametersFrom, formals_next, parameters_next, parameters_stop, parameters_end}
use Rattle.declarations.proofs.Kept.{parameters_named_keep, names_stay}
use Rattle.declarations.proofs.Parts.{first_known, others_known}
use Rattle.declarations.proofs.headings.parameters.Goals as goal

-- the names of the next group are known
pub parameters_named-requires : goal.parameters_named-requires
parameters_named-requires c =
    let groups = c.args.groups.now in
    let types = c.args.types.now in
    let here = c.loop-group in
    let i = length here.yielded in
    let begins = c.into_iter-group-iterator.result in
    let first : begins.a.rest.now ≡ groups = search rules in
    let second : begins.b.rest.now ≡ types = search rules in
    let turn = zip_turn groups types here.yielded begins here.group-iterator c.next.new.self c.next.result first second here.yielded_by
    (c.in-Some.group, c.in-Some.type_id) c.in-Some.is c.next.ensures.steps in
    let group = c.in-Some.group.now in
    let known = subst (λ names. AreKnown names here.typer.regions) (formals_next groups i group turn.0 (turn.2 group)) here.invariant.known in
    record {
      known =
          subst (λ names. AreKnown names here.typer.regions) (sym c.deref.ensures.value)
          (first_known here.typer.regions group.names.items (flat_map formal_names (drop (i + 1) groups)) known);
    }

-- it is refused
pub returns-in_err-own : goal.returns-in_err-own
returns-in_err-own c =
    let groups = c.args.groups.now in
    let types = c.args.types.now in
    let here = c.loop-group in
    let i = length here.yielded in
    let begins = c.into_iter-group-iterator.result in
    let first : begins.a.rest.now ≡ groups = search rules in
    let second : begins.b.rest.now ≡ types = search rules in
    let turn = zip_turn groups types here.yielded begins here.group-iterator c.next.new.self c.next.result first second here.yielded_by
    (c.in-Some.group, c.in-Some.type_id) c.in-Some.is c.next.ensures.steps in
    let group = c.in-Some.group.now in
    let type_id = c.in-Some.type_id.now in
    let why = c.in_err-own.field-0.0 in
    let refused = subst (λ k. IsFault (parameters_named c.args.number k type_id c.deref.result.now here.typer) why) c.parameter_kind-kind.ensures
    c.in_err-own.ensures in
    let stops = parameters_stop c.args.number groups types c.args.typer.now i group type_id here.roots.items here.typer turn.0 (turn.2 group) turn.1
    (turn.3 type_id) here.invariant.left why
    (subst (λ l. IsFault (parameters_named c.args.number (parameter_kind group.by) type_id l here.typer) why) c.deref.ensures.value refused) in
    search (rules, stops)

-- one group more
pub loop-group-preserved : goal.loop-group-preserved
loop-group-preserved c =
    let groups = c.args.groups.now in
    let types = c.args.types.now in
    let here = c.loop-group in
    let i = length here.yielded in
    let begins = c.into_iter-group-iterator.result in
    let first : begins.a.rest.now ≡ groups = search rules in
    let second : begins.b.rest.now ≡ types = search rules in
    let turn = zip_turn groups types here.yielded begins here.group-iterator c.next.new.self c.next.result first second here.yielded_by
    (c.in-Some.group, c.in-Some.type_id) c.in-Some.is c.next.ensures.steps in
    let group = c.in-Some.group.now in
    let type_id = c.in-Some.type_id.now in
    let own = c.in_ok-own.own.items in
    let new = c.parameters_named.new.typer in
    let kind = parameter_kind group.by in
    let passes_as = subst (λ k. parameters_named c.args.number k type_id c.deref.result.now here.typer ≡ Ok (after own [] new)) c.parameter_kind-kind.ensures
    c.in_ok-own.ensures in
    let passes = subst (λ l. parameters_named c.args.number kind type_id l here.typer ≡ Ok (after own [] new)) c.deref.ensures.value passes_as in
    let next = parameters_next c.args.number groups types c.args.typer.now i group type_id here.roots.items here.typer turn.0 (turn.2 group) turn.1
    (turn.3 type_id) here.invariant.left own new passes in
    let rest = flat_map formal_names (drop (i + 1) groups) in
    let known = subst (λ names. AreKnown names here.typer.regions) (formals_next groups i group turn.0 (turn.2 group)) here.invariant.known in
    let stay = names_stay (parameters_named c.args.number kind type_id group.names.items) (parameters_named_keep c.args.number kind type_id group.names.items)
    own [] here.typer new passes rest (others_known here.typer.regions group.names.items rest known) in
    let one : i + 1 ≡ length (here.yielded ++ (c.in-Some.group, c.in-Some.type_id) ∷ []) =
    omega (arith, length-append here.yielded ((c.in-Some.group, c.in-Some.type_id) ∷ [])) in
    let roots : here.roots.items ++ own ≡ c.append.new.self.items = search (rules, c.in_ok-append.ensures.items) in
    record {
      left =
          subst (λ n. ParametersFrom c.args.number groups types c.args.typer.now n c.append.new.self.items new) one
          (subst (λ l. ParametersFrom c.args.number groups types c.args.typer.now (i + 1) l new) roots next);
      known = subst (λ n. AreKnown (flat_map formal_names (drop n groups)) new.regions) one stay;
    }

-- all are passed
pub returns : goal.returns
returns c =
    let groups = c.args.groups.now in
    let types = c.args.types.now in
    let here = c.loop-group in
    let begins = c.into_iter-group-iterator.result in
    let first : begins.a.rest.now ≡ groups = search rules in
    let second : begins.b.rest.now ≡ types = search rules in
    let all : length here.yielded ≡ min (length groups) (length types) =
    zip_end groups types here.yielded begins here.group-iterator c.next.new.self c.next.result first second here.yielded_by c.in-None.is
    c.next.ensures.steps in
    parameters_end c.args.number groups types c.args.typer.now (length here.yielded) here.roots.items here.typer all here.invariant.left
