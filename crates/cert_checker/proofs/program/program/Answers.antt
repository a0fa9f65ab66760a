use Rattle.std.proofs.Common.{arith, ◌≡◌, ◌∙◌, ◌+◌, ◌<◌, [], ap, ap₂, length, map, subst, sym, ℕ}
use Rattle.std.specs.Global.{Vec}
use Rattle.typed_tree.specs.declared.tree.Tree.{Tree}
use Rattle.typed_tree.specs.Entries.{entries_of}
use Rattle.domain.specs.declared.versions.Version.{Version}
use Rattle.checker_trail.specs.Trail.{Starts}
use Rattle.checker_loops.specs.Starts.{all_declared}
use Rattle.checker_loops.specs.View.{all_loop_aliases, said_claims}
use Rattle.checker_expressions.specs.Visits.{all_counted}
use Rattle.std.specs.Prelude.{MatchResult}
use Rattle.cert_checker.specs.Visits.{Visits, counted, most_counted, none_counted}
use Rattle.cert_checker.specs.Promise.{IsGivenUpFor}
use Rattle.cert_checker.specs.Walk.{program_walk}
use Rattle.cert_checker.proofs.Counted.{counted-many}
use Rattle.cert_checker.proofs.StepsProgram.{program-given_up, program-noted, program-open, program-unbroken}
use Rattle.cert_checker.proofs.program.program.Goals as goal

pub returns-clause-sites : goal.returns-clause-sites
returns-clause-sites c =
    let tree : Tree = c.tree-tree.result.now in
    let certificate = c.args.certificate.now in
    let begins = c.new-walk.ensures in
    let claims_are = ap (map said_claims) c.deref-2.ensures.value ∙ c.in_ok-claims.ensures in
    let aliases_are = ap (map (λ (row : Vec ℕ). row.items)) c.deref-3.ensures.value ∙ c.in_ok-aliases.ensures
    ∙ ap₂ (all_loop_aliases tree) c.in_ok-grounds.ensures.pairs_are (ap (map said_claims) c.deref.ensures.value ∙ c.in_ok-claims.ensures) in
    let declared_are : map (λ (row : Vec ℕ). row.items) c.in-Some-2.declared.items ≡ all_declared tree =
    rw c.in-Some-2.is at c.in_ok-declared.ensures in
    let noted = program-noted tree certificate begins c.deref-4.result.now
    (subst (λ (t : Tree). Starts certificate.version t c.of_types-state.result) (sym c.tree-tree.ensures)
    (subst (λ (v : Version). Starts v c.args.rows.now c.of_types-state.result) c.in_ok-grounds.ensures.version_is c.of_types-state.ensures))
    c.in_ok-grounds.ensures claims_are aliases_are
    (ap (map (λ (row : Vec ℕ). row.items)) c.deref-4.ensures.value ∙ declared_are) c.blocks-2.ensures.goes in
    program-open tree certificate begins noted c.in_ok-open_ids.ensures ∙ ap (λ (t : Tree). (program_walk t certificate).open_ids) c.tree-tree.ensures

pub returns-clause-rules : goal.returns-clause-rules
returns-clause-rules c =
    let tree : Tree = c.tree-tree.result.now in
    let certificate = c.args.certificate.now in
    let begins = c.new-walk.ensures in
    let claims_are = ap (map said_claims) c.deref-2.ensures.value ∙ c.in_ok-claims.ensures in
    let aliases_are = ap (map (λ (row : Vec ℕ). row.items)) c.deref-3.ensures.value ∙ c.in_ok-aliases.ensures
    ∙ ap₂ (all_loop_aliases tree) c.in_ok-grounds.ensures.pairs_are (ap (map said_claims) c.deref.ensures.value ∙ c.in_ok-claims.ensures) in
    let declared_are : map (λ (row : Vec ℕ). row.items) c.in-Some-2.declared.items ≡ all_declared tree =
    rw c.in-Some-2.is at c.in_ok-declared.ensures in
    let noted = program-noted tree certificate begins c.deref-4.result.now
    (subst (λ (t : Tree). Starts certificate.version t c.of_types-state.result) (sym c.tree-tree.ensures)
    (subst (λ (v : Version). Starts v c.args.rows.now c.of_types-state.result) c.in_ok-grounds.ensures.version_is c.of_types-state.ensures))
    c.in_ok-grounds.ensures claims_are aliases_are
    (ap (map (λ (row : Vec ℕ). row.items)) c.deref-4.ensures.value ∙ declared_are) c.blocks-2.ensures.goes in
    subst (λ (t : Tree). (program_walk t certificate).broken ≡ []) c.tree-tree.ensures
    (program-unbroken tree certificate begins noted c.in_ok-open_ids.ensures)

pub returns-in_err-open_ids-clause-rules : goal.returns-in_err-open_ids-clause-rules
returns-in_err-open_ids-clause-rules c =
    let tree : Tree = c.tree-tree.result.now in
    let certificate = c.args.certificate.now in
    let begins = c.new-walk.ensures in
    let claims_are = ap (map said_claims) c.deref-2.ensures.value ∙ c.in_ok-claims.ensures in
    let aliases_are = ap (map (λ (row : Vec ℕ). row.items)) c.deref-3.ensures.value ∙ c.in_ok-aliases.ensures
    ∙ ap₂ (all_loop_aliases tree) c.in_ok-grounds.ensures.pairs_are (ap (map said_claims) c.deref.ensures.value ∙ c.in_ok-claims.ensures) in
    let declared_are : map (λ (row : Vec ℕ). row.items) c.in-Some-2.declared.items ≡ all_declared tree =
    rw c.in-Some-2.is at c.in_ok-declared.ensures in
    let noted = program-noted tree certificate begins c.deref-4.result.now
    (subst (λ (t : Tree). Starts certificate.version t c.of_types-state.result) (sym c.tree-tree.ensures)
    (subst (λ (v : Version). Starts v c.args.rows.now c.of_types-state.result) c.in_ok-grounds.ensures.version_is c.of_types-state.ensures))
    c.in_ok-grounds.ensures claims_are aliases_are
    (ap (map (λ (row : Vec ℕ). row.items)) c.deref-4.ensures.value ∙ declared_are) c.blocks-2.ensures.goes in
    subst (λ (t : Tree). MatchResult c.from_residual-in_err-open_ids.result (λ _. (program_walk t certificate).broken ≡ [])
    (IsGivenUpFor t certificate))
    c.tree-tree.ensures
    (program-given_up tree certificate begins noted _ c.from_residual-in_err-open_ids.result c.in_err-open_ids.field-0.0
    c.from_residual-in_err-open_ids.ensures c.in_err-open_ids.ensures)

pub finish-requires : goal.finish-requires
finish-requires c =
    c.blocks-2.ensures.counts ∙ ap (all_counted counted (entries_of c.tree-tree.result.now)) c.new-visits.ensures

pub returns-clause-visits : goal.returns-clause-visits
returns-clause-visits c =
    let entries = entries_of c.tree-tree.result.now in
    let all : c.blocks-2.new.visits ≡ all_counted counted entries none_counted =
    c.blocks-2.ensures.counts ∙ ap (all_counted counted entries) c.new-visits.ensures in
    let told = c.in-Some-finish.ensures in
    let same = told.0 ∙ ap (λ (visits : Visits). visits.entries) all in
    let few = subst (λ (n : ℕ). n < most_counted) same told.1 in
    let from_none : none_counted.entries + length entries ≡ length entries = omega arith in
    same ∙ counted-many entries none_counted few ∙ from_none ∙ ap (λ (t : Tree). length (entries_of t)) c.tree-tree.ensures
