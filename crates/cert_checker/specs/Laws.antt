-- What a verdict by the walk promises of the runs of each program (ISO 7185:1990, 3.1): an error comes only at an open
-- site, the states that are linked hold, calls change what is listed, and each entry has its state. It does not say
-- that a certificate is valid.
use Rattle.std.specs.Prelude.{List}
use Rattle.certificate.specs.declared.Certificate.{Certificate}
use Rattle.typed_tree.specs.declared.site.Site.{Site}
use Rattle.typed_tree.specs.declared.tree.Tree.{Tree}
use Rattle.typed_tree.specs.Entries.{AreNumbered}
use Rattle.typed_tree.specs.Ids.{AreInOrder}
use Rattle.typed_tree.specs.WellFormed.{IsWellFormed}
use Rattle.cert_checker.specs.Promise.{CallsChangeWhatTheyList, ClosedNeverErr, LinksEntries, StatesHold, Valid}

-- each error of a run is at an open site
abbrev pub ErrorsAreOpen : Type 0
ErrorsAreOpen =
    (tree : Tree) (certificate : Certificate) (open_sites : List Site) → Valid tree certificate open_sites
    → IsWellFormed tree → AreInOrder tree.sites.items → ClosedNeverErr tree open_sites

-- each state that is linked to an entry holds there
abbrev pub LinkedStatesHold : Type 0
LinkedStatesHold =
    (tree : Tree) (certificate : Certificate) (open_sites : List Site) → Valid tree certificate open_sites
    → IsWellFormed tree → AreNumbered tree → StatesHold tree certificate

-- a call changes only what its block lists
abbrev pub CallsKeepToLists : Type 0
CallsKeepToLists =
    (tree : Tree) (certificate : Certificate) (open_sites : List Site) → Valid tree certificate open_sites
    → IsWellFormed tree → CallsChangeWhatTheyList tree certificate

-- each entry has its state, once
abbrev pub EntriesAreLinked : Type 0
EntriesAreLinked = (tree : Tree) (certificate : Certificate) → LinksEntries tree certificate
