use Rattle.std.proofs.Common.{sym, map}
use Rattle.text_lines.specs.Lines.{lines}
use Rattle.certificate.specs.Contents.{section_of}
use Rattle.certificate.proofs.Whole.{error_only, fault_below, fault_of_heading, read_exactly, read_only, refused_for_memory}
use Rattle.certificate.proofs.reader.read.Goals as goal

pub returns-in_err-version-clause-only : goal.returns-in_err-version-clause-only
returns-in_err-version-clause-only c version sections right spelled =
    let text = c.args.text.now in
    let error = c.in_err-version.field-0.0 in
    let only = refused_for_memory error text version sections
    (λ other. fault_of_heading text _ (lines c.in-Some.below.now) error c.in-Some.ensures.0 (sym c.in_err-version.ensures)) right spelled in
    error_only version sections _ error c.from_residual.ensures.1 only

pub returns-in_err-sections-clause-only : goal.returns-in_err-sections-clause-only
returns-in_err-sections-clause-only c version sections right spelled =
    let text = c.args.text.now in
    let error = c.in_err-sections.field-0.0 in
    let told = c.in_err-sections.ensures in
    let only = refused_for_memory error text version sections
    (λ other. fault_below text _ (lines c.in-Some.below.now) c.in_ok-version.version error c.in-Some.ensures.0 (sym c.in_ok-version.ensures) (told other))
    right spelled in
    error_only version sections _ error c.from_residual-in_err-sections.ensures.1 only

pub returns-clause-exact : goal.returns-clause-exact
returns-clause-exact c =
    let text = c.args.text.now in
    let read = c.in_ok-sections.ensures in
    let exactly = read_exactly text _ (lines c.in-Some.below.now) read.1 (map section_of c.in_ok-sections.sections.items) c.in_ok-version.version
    c.in-Some.ensures.0 (sym c.in_ok-version.ensures) read.0 read.2 read.3 read.4 in
    record { in_order = exactly.0; text_is = exactly.1 }

pub returns-clause-only : goal.returns-clause-only
returns-clause-only c version sections right spelled =
    let read = c.in_ok-sections.ensures in
    read_only c.args.text.now _ (lines c.in-Some.below.now) read.1 (map section_of c.in_ok-sections.sections.items) sections c.in_ok-version.version
    version c.in-Some.ensures.0 (sym c.in_ok-version.ensures) read.2 read.3 read.4 right spelled
