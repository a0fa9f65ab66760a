use Rattle.std.proofs.Common.{◌∙◌, ap}
use Rattle.certificate.specs.declared.Certificate.{Certificate}
use Rattle.domain.specs.declared.versions.Version.TheVariants.{Three}
use Rattle.certificate.specs.Contents.{are_in_order}
use Rattle.plain_certificate.proofs.Listed.{lists-all, names-known, no-facts}
use Rattle.plain_certificate.proofs.Ordered.{widest-is-in-order}
use Rattle.plain_certificate.proofs.widest.Goals as goal

pub returns : goal.returns
returns c =
    let tree = c.args.tree.now in
    let certificate : Certificate = record { version = Three; sections = c.in_ok-sections.field-0 } in
    let is = c.in_ok-sections.ensures in
    record {
      lists = (names-known tree certificate is, no-facts tree certificate is, λ numbers. lists-all tree certificate is);
      well_formed = λ well. (names-known tree certificate is, no-facts tree certificate is, lists-all tree certificate is);
      in_order = ap (are_in_order Three) is ∙ widest-is-in-order Three tree (c.has_numbers.ensures.0 c.if-not-has_numbers.false);
    }
