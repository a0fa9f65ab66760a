-- What the checker did over a program, from what it did over the blocks.
use Rattle.std.proofs.Common.{◌≡◌, ◌∙◌, refl, sym, ap, ap₂, subst, Option, None, Some, ℕ, List, [], ◌∷◌, ◌++◌, map}
use Rattle.std.proofs.Common.{Result, Ok, Err}
use Rattle.std.specs.Prelude.{MatchResult}
use Rattle.std.specs.Result.{IsErr, IsErrAnd}
use Rattle.std.specs.Global.{Vec}
use Rattle.certificate.specs.declared.Certificate.{Certificate}
use Rattle.typed_tree.specs.declared.tree.Tree.{Tree}
use Rattle.domain.specs.declared.versions.Version.{Version}
use Rattle.checker_state.specs.State.{Dead, of_types}
use Rattle.checker_trail.specs.declared.state.State.{State as Kept}
use Rattle.checker_trail.specs.Trail.{Starts, seen}
use Rattle.checker_known.specs.View.{type_rows}
use Rattle.checker_loops.specs.declared.loops.Claims.{Claims as KeptClaims}
use Rattle.checker_loops.specs.Loops.{Claims, Round, all_claims}
use Rattle.checker_loops.specs.Pairs.{Listed}
use Rattle.checker_loops.specs.View.{all_loop_aliases, loop_of_round, said_claims}
use Rattle.checker_loops.specs.Sections.{BlockClaims, all_block_claims, all_pairs}
use Rattle.checker_loops.specs.Starts.{all_declared}
use Rattle.checker_loops.specs.BlockView.{said_section}
use Rattle.checker_expressions.specs.declared.fault.Breach.{Breach}
use Rattle.checker_expressions.specs.declared.fault.CheckFault.{CheckFault}
use Rattle.checker_expressions.specs.declared.fault.CheckFault.TheVariants.{Memory, TooLarge, Foreign, Broken}
use Rattle.checker_expressions.specs.declared.grounds.Grounds.{Grounds}
use Rattle.checker_expressions.specs.View.{first_of, state_of}
use Rattle.checker_expressions.specs.Walk.{Context, first_breach}
use Rattle.cert_checker.specs.declared.walk.Walk.{Walk}
use Rattle.cert_checker.specs.Promise.{IsGivenUpFor}
use Rattle.cert_checker.specs.Walk.{blocks_walk, first_context, program_walk}
use Rattle.cert_checker.specs.View.{AreDeclared, AreGrounds, AreLoops, IsBegun, IsFaultOf, IsUnbroken, KnowsTypes, Noted, Passes, context_of}
use Rattle.cert_checker.proofs.Steps.{noted-as}
use Rattle.cert_checker.proofs.StepsBlocks.{broken-alike, open-alike}

abbrev by : Version → Tree → List Claims → List BlockClaims → Listed → ℕ → List Round → Context
by version tree claims blocks pairs block rounds =
    record { version = version; tree = tree; claims = claims; blocks = blocks; pairs = pairs; block = block; rounds = rounds }

abbrev IsSome : Option Breach → Type 0
IsSome None = ⊥
IsSome (Some breach) = Unit {0}

no-breach : (breaches : List Breach) → first_breach breaches ≡ None → breaches ≡ []
no-breach [] none = refl
no-breach (breach ∷ breaches) none = absurd (subst IsSome none tt)

module _ (tree : Tree) (certificate : Certificate) {state : Kept} {grounds : Grounds} {claims : List KeptClaims} {aliases : List (Vec ℕ)} {begun : Walk}
    (begins : IsBegun state grounds claims aliases begun) where
  -- what the checker goes by before the first block
  begun-context : AreGrounds tree certificate grounds → state.table.now ≡ tree → map said_claims claims ≡ all_claims tree certificate
      → context_of begun ≡ first_context tree certificate
  begun-context are table_is claims_are =
      let own : Grounds = begun.flow.grounds in
      let all = all_claims tree certificate in
      ap₂ (λ (t : Tree) (c : List Claims).
      by own.version t c (map said_section own.sections.items) own.pairs own.block (map loop_of_round own.rounds.items))
      (ap (λ (s : Kept). s.table.now) begins.state_is ∙ table_is) (ap (map said_claims) begins.claims_are ∙ claims_are)
      ∙ ap (λ (g : Grounds). by g.version tree all (map said_section g.sections.items) g.pairs g.block (map loop_of_round g.rounds.items))
      begins.grounds_are
      ∙ ap₂ (λ (b : List BlockClaims) (p : Listed). by grounds.version tree all b p grounds.block (map loop_of_round grounds.rounds.items))
      are.sections_are are.pairs_are
      ∙ ap₂ (λ (n : ℕ) (r : List Round).
      by grounds.version tree all (all_block_claims tree certificate) (record { tree = tree; pairs = all_pairs certificate }) n r)
      are.block_is (ap (map loop_of_round) are.rounds_are)
      ∙ ap (λ (v : Version). record (first_context tree certificate) { version = v }) are.version_is

  -- what is noted of the program
  pub program-noted : (declared : List (Vec ℕ)) {new : Walk} → Starts certificate.version tree state → AreGrounds tree certificate grounds
      → map said_claims claims ≡ all_claims tree certificate
      → map (λ row. row.items) aliases
      ≡ all_loop_aliases tree (record { tree = tree; pairs = all_pairs certificate }) (all_claims tree certificate)
      → map (λ row. row.items) declared ≡ all_declared tree → Passes (blocks_walk 0 tree.blocks.items) declared begun new
      → new.flow.state.refused ≡ None → Noted (program_walk tree certificate) begun new
  program-noted declared {new = new} starts are claims_are aliases_are declared_are passes long =
      let passed = passes.unless_short long in
      let started = starts.unless_short (ap (λ (s : Kept). s.refused) (sym begins.state_is) ∙ passed.was_long) in
      let context : context_of begun ≡ first_context tree certificate = begun-context are started.table_is claims_are in
      let blocks = tree.blocks.items in
      let known = state_of begun.flow in
      let loops : AreLoops (context_of begun) begun.aliases.now =
      subst (λ (c : Context). AreLoops c begun.aliases.now) (sym context)
      (ap (map (λ (row : Vec ℕ). row.items)) begins.aliases_are ∙ aliases_are) in
      let declares : AreDeclared declared begun = declared_are ∙ ap (λ (c : Context). all_declared c.tree) (sym context) in
      let types : KnowsTypes begun =
      ap seen begins.state_is ∙ started.seen_is ∙ ap (λ (c : Context). of_types c.version (type_rows c.tree)) (sym context) in
      noted-as (program_walk tree certificate)
      (ap (λ (c : Context). (blocks_walk 0 blocks c known).open_ids) context ∙ open-alike 0 blocks (first_context tree certificate) known Dead)
      (ap (λ (c : Context). (blocks_walk 0 blocks c known).broken) context ∙ broken-alike 0 blocks (first_context tree certificate) known Dead)
      (passed.has_done loops declares types).noted

  module _ {new : Walk} (noted : new.flow.state.refused ≡ None → Noted (program_walk tree certificate) begun new) where
    broken-first : new.flow.state.refused ≡ None → new.flow.broken ≡ first_breach (program_walk tree certificate).broken
    broken-first long =
        (noted long).broken_is
        ∙ ap (λ (b : Option Breach). first_of b (first_breach (program_walk tree certificate).broken)) begins.broken_is

    -- the sites that are left open, where no rule is broken
    pub program-open : {ids : List ℕ} → IsUnbroken new ids → ids ≡ (program_walk tree certificate).open_ids
    program-open unbroken =
        unbroken.ids_are ∙ (noted unbroken.is_long).open_is ∙ ap (λ (ids : List ℕ). ids ++ (program_walk tree certificate).open_ids) begins.open_is

    pub program-unbroken : {ids : List ℕ} → IsUnbroken new ids → (program_walk tree certificate).broken ≡ []
    program-unbroken unbroken =
        no-breach (program_walk tree certificate).broken (sym (broken-first unbroken.is_long) ∙ unbroken.unbroken)

    -- why there is no verdict
    program-fault : (fault : CheckFault) → IsFaultOf new fault → IsGivenUpFor tree certificate fault
    program-fault (Memory _) is = tt
    program-fault TooLarge is = absurd is
    program-fault Foreign is = is
    program-fault (Broken rule place) is = sym (broken-first is.0) ∙ is.1

    pub program-given_up : {A : Type 0} (P : A → Type 0) (result : Result A CheckFault) (fault : CheckFault)
        → IsErr result × IsErrAnd result (λ e. e ≡ fault) → IsFaultOf new fault → MatchResult result P (IsGivenUpFor tree certificate)
    program-given_up P (Ok a) fault left is = absurd left.1
    program-given_up P (Err other) fault left is = subst (IsGivenUpFor tree certificate) (sym left.1) (program-fault fault is)
