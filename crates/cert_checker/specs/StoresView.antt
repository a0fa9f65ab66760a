-- Rows that get values as the program keeps them. It does not say what is stored.
use Rattle.checker_rows.specs.View.{numbers}
use Rattle.cert_checker.specs.declared.stores.Stores.{Stores as KeptStores}
use Rattle.cert_checker.specs.declared.stores.Stores.TheVariants as kept
use Rattle.cert_checker.specs.Walk.{Stores, alike, paired}

-- the rows, each with the range of its values
abbrev pub said_stores : KeptStores → Stores
said_stores (kept.Alike rows range) = alike range (numbers rows)
said_stores (kept.Paired rows ranges) = paired (numbers rows) ranges.now
