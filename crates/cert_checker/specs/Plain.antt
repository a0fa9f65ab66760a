-- The walk by a plain certificate breaks no rule (ISO 7185:1990, 6.6.3.3, 6.8.3.6). It does not say which sites it
-- leaves open.
use Rattle.std.specs.Prelude.{◌≡◌, true, []}
use Rattle.certificate.specs.declared.Certificate.{Certificate}
use Rattle.typed_tree.specs.declared.tree.Tree.{Tree}
use Rattle.typed_tree.specs.WellFormed.{IsWellFormed}
use Rattle.checker_calls.specs.Names.{is_known}
use Rattle.checker_calls.specs.Plain.{HasNoFacts, ListsAll}
use Rattle.cert_checker.specs.Walk.{program_walk}

-- a certificate that names what the program has, has no facts and lists all that it may breaks no rule
abbrev pub PlainIsAccepted : Type 0
PlainIsAccepted =
    (tree : Tree) (certificate : Certificate) → IsWellFormed tree → is_known tree certificate ≡ true
    → HasNoFacts certificate → ListsAll tree certificate → (program_walk tree certificate).broken ≡ []
