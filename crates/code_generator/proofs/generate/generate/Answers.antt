-- The code follows the program, since it has the instructions and the sites of the tree, and is small enough.
use Rattle.std.proofs.Common.{rules, ◌≡◌, false, true, subst, sym}
use Rattle.pcode_assembler.specs.Writable.{EndsInNoCheck}
use Rattle.code_scheme.specs.Code.{program_code}
use Rattle.code_scheme.specs.Large.{is_too_large}
use Rattle.code_generator.specs.Tables.{has_room, point_table, site_table}
use Rattle.code_scheme.proofs.Bounds.{program_ends}
use Rattle.code_generator.proofs.Program.{follows}
use Rattle.code_generator.proofs.Written.{has_text}
use Rattle.code_generator.proofs.generate.generate.Goals as goal

pub returns-clause-last : goal.returns-clause-last
returns-clause-last c =
    let whole : c.in_ok-instructions.instructions.items ≡ program_code c.args.tree.now = search rules in
    subst EndsInNoCheck (sym whole) (program_ends c.args.tree.now)

pub returns-clause-text : goal.returns-clause-text
returns-clause-text c =
    let whole : c.in_ok-instructions.instructions.items ≡ program_code c.args.tree.now = search rules in
    let sites : c.in_ok-sites_of.field-0.items ≡ site_table c.args.tree.now.sites.items = search rules in
    let points : c.in_ok-points_of.field-0.items ≡ point_table c.args.tree.now.points.items = search rules in
    let short : is_too_large c.args.tree.now ≡ false = search rules in
    let room : has_room c.args.tree.now ≡ true = search rules in
    has_text c.args.tree.now _ whole sites points short room

pub returns-clause-follows : goal.returns-clause-follows
returns-clause-follows c =
    let whole : c.in_ok-instructions.instructions.items ≡ program_code c.args.tree.now = search rules in
    let sites : c.in_ok-sites_of.field-0.items ≡ site_table c.args.tree.now.sites.items = search rules in
    let points : c.in_ok-points_of.field-0.items ≡ point_table c.args.tree.now.points.items = search rules in
    let short : is_too_large c.args.tree.now ≡ false = search rules in
    follows c.known.ensures _ c.args.tree.now whole sites points short
