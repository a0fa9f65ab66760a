-- What the steps of compiling give: the typed tree of a source, its certificate with the verdict, its codes, and all of
-- them together. Only private functions promise it in these words.
use Rattle.std.specs.Prelude.{◌≡◌, ℕ, List, Option, length, map}
use Rattle.typed_tree.specs.declared.tree.Tree.{Tree}
use Rattle.typed_tree.specs.declared.site.Site.{Site}
use Rattle.typed_tree.specs.Entries.{AreNumbered, entries_of}
use Rattle.typed_tree.specs.WellFormed.{IsWellFormed}
use Rattle.typed_tree.specs.Ids.{AreInOrder, AreByPlace, ArePointsInOrder}
use Rattle.typing.specs.Sound.{stands}
use Rattle.certificate.specs.declared.Certificate.{Certificate}
use Rattle.cert_checker.specs.declared.Verdict.{Verdict}
use Rattle.cert_checker.specs.Promise.{CallsChangeWhatTheyList, ClosedNeverErr, StatesHold, Valid}
use Rattle.pcode_assembler.specs.declared.code.Code.{Code}
use Rattle.pcode_assembler.specs.Contents.{HasText}
use Rattle.code_scheme.specs.Code.{program_code}
use Rattle.code_generator.specs.Follows.{Follows}
use Rattle.code_generator.specs.Tables.{site_table, point_table}
use Rattle.report.specs.declared.compile.Compiled.{Compiled}
use Rattle.report.specs.Headline.{Headline, IsTypedTreeOf}
use Rattle.report.specs.Refusals.{Serves}
use Rattle.report.specs.Whole.{IsStripped}

-- a typed tree of a source: its names are in its tables, its sites in order, by place and then by kind, its points in
-- order, its entries numbered
pub record IsSoundTreeOf (source : List ℕ) (tree : Tree) : Type 0 where
  pub well_formed : IsWellFormed tree
  pub in_order : AreInOrder tree.sites.items
  pub points_in_order : ArePointsInOrder tree.points.items
  pub numbered : AreNumbered tree
  pub by_place : AreByPlace (map stands tree.sites.items)
  pub typed : IsTypedTreeOf tree source

-- the certificate that serves for a tree, and the checker's verdict by it
pub record IsJudgement (tree : Tree) (text : Option (List ℕ)) (certificate : Certificate) (verdict : Verdict)
    : Type 0 where
  pub serves : Serves text tree certificate
  pub valid : Valid tree certificate verdict.open_sites.items
  pub entered : verdict.visits ≡ length (entries_of tree)
  pub closed_never_err : ClosedNeverErr tree verdict.open_sites.items
  pub states_hold : StatesHold tree certificate
  pub calls_change : CallsChangeWhatTheyList tree certificate

-- the code of a tree, with all checks and without those of the sites that aren't open
pub record AreCodes (tree : Tree) (open_sites : List Site) (full stripped : Code) : Type 0 where
  pub instructions : full.instructions.items ≡ program_code tree
  pub sites : full.sites.items ≡ site_table tree.sites.items
  pub points : full.points.items ≡ point_table tree.points.items
  pub follows : Follows full tree
  pub text : HasText full
  pub less_text : HasText stripped
  pub less : IsStripped tree open_sites stripped
  pub headline : Headline tree open_sites stripped

-- a source goes through all steps, with a certificate's text or without one
pub record IsWhole (source : List ℕ) (text : Option (List ℕ)) (compiled : Compiled) : Type 0 where
  pub tree : IsSoundTreeOf source compiled.tree
  pub judgement : IsJudgement compiled.tree text compiled.certificate compiled.verdict
  pub codes : AreCodes compiled.tree compiled.verdict.open_sites.items compiled.full compiled.stripped
