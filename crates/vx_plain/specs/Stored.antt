-- What a `Stored` stands for.
use Rattle.vx_model.specs.Stored.{StoredParts}
use Rattle.vx_model.specs.Bool.{stored_bits}
use Rattle.vx_model.specs.Records.{stored_records}
use Rattle.vx_model.specs.Text.{stored_texts}
use Rattle.vx_model.specs.VarBin.{varbin_texts}
use Rattle.vx_model.specs.VarBinView.{view_texts}
use Rattle.vx_plain.specs.declared.stored.Stored.{Stored}
use Rattle.vx_plain.specs.declared.stored.Stored.TheVariants.{Bits, Records, Texts, Views}

abbrev pub parts_of : Stored → StoredParts
parts_of (Bits a) = stored_bits a.now
parts_of (Records a) = stored_records a.now
parts_of (Texts a) = stored_texts (varbin_texts a.now)
parts_of (Views a) = stored_texts (view_texts a.now)
