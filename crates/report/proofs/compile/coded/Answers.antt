use Rattle.std.specs.Prelude.{not}
use Rattle.std.proofs.Common.{◌≡◌, ◌∙◌, ap, subst, Err}
use Rattle.std.proofs.lemmas.Bool.{or_parts}
use Rattle.std.proofs.lemmas.Result.{err_from_is_err_and}
use Rattle.check_remover.specs.Strip.{strip, KeepsInstructions}
use Rattle.code_scheme.specs.Code.{program_code}
use Rattle.code_scheme.specs.Large.{is_too_large}
use Rattle.code_generator.specs.Tables.{has_room, site_table}
use Rattle.report.proofs.OpenSites.{errs_at_open}
use Rattle.report.proofs.RefusalLemmas.{refused_by, generation-refusal, large_alone}
use Rattle.report.proofs.compile.coded.Goals as goal

-- the checks that the remover takes out are of sites at which the program never errs
pub returns : goal.returns
returns c = λ source text certificate sound judged.
    let tree = c.args.tree.now in
    let full = c.in_ok-full.full in
    let stripped = c.in_ok-stripped.stripped in
    let open_sites = c.args.verdict.now.open_sites.items in
    let few = or_parts (is_too_large tree) (not (has_room tree)) c.in_ok-full.ensures.small in
    let written = c.in_ok-full.ensures.text sound.well_formed (record { sites = sound.in_order; points = sound.points_in_order }) in
    let listed = c.deref.ensures.value ∙ c.in_ok-open_sites.ensures in
    let keeps = subst (λ sites. KeepsInstructions sites (program_code tree) stripped.instructions.items) listed
    (subst (λ code. KeepsInstructions c.deref.result.now code stripped.instructions.items) c.in_ok-full.ensures.instructions c.in_ok-stripped.ensures.kept) in
    let sites = c.in_ok-stripped.ensures.sites ∙ c.in_ok-full.ensures.sites in
    let points = c.in_ok-stripped.ensures.points ∙ c.in_ok-full.ensures.points in
    record {
      instructions = c.in_ok-full.ensures.instructions;
      sites = c.in_ok-full.ensures.sites;
      points = c.in_ok-full.ensures.points;
      follows = c.in_ok-full.ensures.follows sound.well_formed;
      text = written;
      less_text = c.in_ok-stripped.ensures.text written c.in_ok-full.ensures.last;
      less = record {
        instructions = c.in_ok-stripped.ensures.instructions ∙ ap (λ sites. strip sites full.instructions.items) listed
            ∙ ap (strip _) c.in_ok-full.ensures.instructions;
        sites = sites;
        points = points;
      };
      headline = record {
        closed_never_err = judged.closed_never_err;
        follows = c.stripped_follows.ensures tree (site_table open_sites) stripped sound.well_formed few.0 sites points keeps
            (errs_at_open tree open_sites judged.closed_never_err);
      };
    }

pub returns-in_err-full : goal.returns-in_err-full
returns-in_err-full c = λ source text certificate sound judged.
    let told = err_from_is_err_and c.from_residual.result c.from_residual.ensures.1 in
    refused_by _ source text c.from_residual.result told.0 _ told.1 told.2
    (generation-refusal source text c.args.tree.now certificate c.in_err-full.field-0.0
    (record { typed = sound.typed; serves = judged.serves }) judged.valid.unbroken
    (λ same. large_alone c.args.tree.now source sound.typed (c.generate.ensures.too_large (c.in_err-full.was ∙ ap Err same))))

pub returns-in_err-open_sites : goal.returns-in_err-open_sites
returns-in_err-open_sites c = λ source text certificate sound judged.
    let told = err_from_is_err_and c.from_residual-in_err-open_sites.result c.from_residual-in_err-open_sites.ensures.1 in
    refused_by _ source text c.from_residual-in_err-open_sites.result told.0 _ told.1 told.2 tt

pub returns-in_err-stripped : goal.returns-in_err-stripped
returns-in_err-stripped c = λ source text certificate sound judged.
    let told = err_from_is_err_and c.from_residual-in_err-stripped.result c.from_residual-in_err-stripped.ensures.1 in
    refused_by _ source text c.from_residual-in_err-stripped.result told.0 _ told.1 told.2 tt
