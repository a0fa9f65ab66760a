-- A verdict that is handed on with the certificate for which the checker made it: what the checker promises of it. It
-- does not say how the certificate was found.
use Rattle.std.specs.Prelude.{◌≡◌, length, true}
use Rattle.cert_checker.specs.declared.Verdict.{Verdict}
use Rattle.cert_checker.specs.Promise.{CallsChangeWhatTheyList, ClosedNeverErr, StatesHold, Valid}
use Rattle.certificate.specs.declared.Certificate.{Certificate}
use Rattle.certificate.specs.Contents.{are_in_order, contents}
use Rattle.typed_tree.specs.declared.tree.Tree.{Tree}
use Rattle.typed_tree.specs.Entries.{AreNumbered, entries_of}
use Rattle.typed_tree.specs.Ids.{AreInOrder}
use Rattle.typed_tree.specs.WellFormed.{IsWellFormed}

-- the checker's verdict of a program by a certificate, with all that its check promises
pub record IsVerdict (tree : Tree) (certificate : Certificate) (verdict : Verdict) : Type 0 where
  pub valid : Valid tree certificate verdict.open_sites.items
  pub entered : verdict.visits ≡ length (entries_of tree)
  pub closed_never_err :
      IsWellFormed tree → AreInOrder tree.sites.items → ClosedNeverErr tree verdict.open_sites.items
  pub states_hold : IsWellFormed tree → AreNumbered tree → StatesHold tree certificate
  pub calls_change : IsWellFormed tree → CallsChangeWhatTheyList tree certificate

-- a certificate that has a spelling, and of which this is the checker's verdict
pub record IsJudgedAs (tree : Tree) (verdict : Verdict) (certificate : Certificate) : Type 0 where
  pub in_order : are_in_order certificate.version (contents certificate) ≡ true
  pub judged : IsVerdict tree certificate verdict
