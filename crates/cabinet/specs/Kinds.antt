-- The kind of a store that was chosen.
use Rattle.cabinet.specs.declared.chosen.Chosen.{Chosen}
use Rattle.cabinet.specs.declared.chosen.Chosen.TheVariants.{Appending as Strip, Flat as Array}
use Rattle.orders.specs.declared.StoreKind.{StoreKind}
use Rattle.orders.specs.declared.StoreKind.TheVariants.{Appending, Flat}

abbrev pub kind_of : Chosen → StoreKind
kind_of (Array _) = Flat
kind_of (Strip _) = Appending
