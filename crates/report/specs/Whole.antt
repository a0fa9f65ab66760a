-- What the whole compiler gives: the answers of its layers, one over the other, and a run of the code without the
-- checks of the sites that aren't open. It does not say that a run ends, nor what a writer that fails does not take.
use Rattle.std.specs.Prelude.{◌≡◌, ℕ, List, Option, length}
use Rattle.typed_tree.specs.declared.tree.Tree.{Tree}
use Rattle.typed_tree.specs.declared.site.Site.{Site}
use Rattle.typed_tree.specs.Entries.{entries_of}
use Rattle.cert_checker.specs.declared.Verdict.{Verdict}
use Rattle.cert_checker.specs.Promise.{Valid}
use Rattle.pcode_assembler.specs.declared.code.Code.{Code}
use Rattle.check_remover.specs.Strip.{strip}
use Rattle.code_scheme.specs.Code.{program_code}
use Rattle.code_generator.specs.Follows.{Follows}
use Rattle.code_generator.specs.Tables.{site_table, point_table}
use Rattle.stack_machine.specs.declared.stop.Stop.{Stop}
use Rattle.outside.specs.Acts.{IsRun, Streams}
use Rattle.report.specs.declared.compile.Compiled.{Compiled}
use Rattle.report.specs.Headline.{Headline, IsTypedTreeOf}
use Rattle.report.specs.Refusals.{Serves}

-- the code of a tree, without the checks of the sites that aren't open
pub record IsStripped (tree : Tree) (open_sites : List Site) (code : Code) : Type 0 where
  pub instructions : code.instructions.items ≡ strip (site_table open_sites) (program_code tree)
  pub sites : code.sites.items ≡ site_table tree.sites.items
  pub points : code.points.items ≡ point_table tree.points.items

-- the code of a tree, with all its checks
pub record IsFull (tree : Tree) (code : Code) : Type 0 where
  pub instructions : code.instructions.items ≡ program_code tree
  pub sites : code.sites.items ≡ site_table tree.sites.items
  pub points : code.points.items ≡ point_table tree.points.items
  pub follows : Follows code tree

-- a source was compiled, with a certificate's text or without one: the typed tree is checked by the certificate that
-- serves, with this verdict, for whose open sites the headline holds of the code without the other checks; the code
-- with all of them follows the program too
pub record IsCompiled (source : List ℕ) (text : Option (List ℕ)) (compiled : Compiled) : Type 0 where
  pub typed : IsTypedTreeOf compiled.tree source
  pub serves : Serves text compiled.tree compiled.certificate
  pub valid : Valid compiled.tree compiled.certificate compiled.verdict.open_sites.items
  pub entered : compiled.verdict.visits ≡ length (entries_of compiled.tree)
  pub stripped : IsStripped compiled.tree compiled.verdict.open_sites.items compiled.stripped
  pub headline : Headline compiled.tree compiled.verdict.open_sites.items compiled.stripped
  pub full : IsFull compiled.tree compiled.full

-- A source was compiled with this verdict, and the code without the checks of the sites that aren't open was run, on so
-- many cells and for at most so many instructions: this is its stop, and the writer has what the run wrote of what the
-- reader gave.
pub record IsRunOf (source : List ℕ) (text : Option (List ℕ)) (cells budget : ℕ) (verdict : Verdict) (stop : Stop)
    (before after : Streams) : Type 0 where
  pub compiled : Compiled
  pub is_compiled : IsCompiled source text compiled
  pub verdict_is : compiled.verdict ≡ verdict
  pub ran : IsRun compiled.stripped cells budget stop before after
