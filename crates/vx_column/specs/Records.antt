-- What a `RecordArray` stands for.
use Rattle.vx_bits.specs.Records.{records_of, width_of}
use Rattle.vx_bits.specs.declared.records.Records.{Records}
use Rattle.vx_types.specs.RecordType.{kind_of}
use Rattle.vx_types.specs.declared.record_type.RecordType.{RecordType}
use Rattle.vx_model.specs.Records.{RecordParts}
use Rattle.vx_column.specs.Validity.{valid_of}
use Rattle.vx_column.specs.declared.validity.Validity.{Validity}

abbrev pub record_parts : RecordType → Records → Validity → RecordParts
record_parts t values validity =
    record {
      kind = kind_of t;
      width = width_of values;
      records = records_of values;
      valid = valid_of validity;
    }
