use Rattle.std.proofs.Common.{◌≡◌, take}
use Rattle.std.specs.List.{flat_map}
use Rattle.report_text.specs.Text.{open_line}
use Rattle.report_text.proofs.text.open_lines.Given as goal

-- the lines of the sites so far
abbrev pub invariant-loop-site : goal.invariant-loop-site
invariant-loop-site l = l.text.items ≡ flat_map open_line (take l.site-index l.open_sites)
