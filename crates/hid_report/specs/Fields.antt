-- The fields of the reports: one for each Input item that isn't constant.
use Rattle.std.specs.Prelude.{List, [], ◌∷◌, ◌++◌, if◌then◌else◌, map, ℤ, pos}
use Rattle.std.specs.Int.Signed.{lt_z}
use Rattle.hid_report.specs.declared.item.Flags.{Flags}
use Rattle.hid_report.specs.declared.item.Item.{Item}
use Rattle.hid_report.specs.declared.item.Item.TheVariants as item
use Rattle.hid_report.specs.declared.globals.Globals.{Globals}
use Rattle.hid_report.specs.declared.field.Field.{Field}
use Rattle.hid_report.specs.Globals.{globals, signed_datum}
use Rattle.hid_report.specs.Usages.{usages, span_of}
use Rattle.hid_report.specs.Bits.{report_bits}

-- the logical maximum is taken unsigned where it lies below the minimum
abbrev pub logical_maximum : Globals → ℤ
logical_maximum globals =
    if lt_z (signed_datum globals.maximum) (signed_datum globals.minimum)
    then pos globals.maximum.raw
    else signed_datum globals.maximum

-- the field of an Input item after these items
unfoldable pub field_of : Flags → List Item → Field
field_of flags past = record {
  id = (globals past).id;
  place = report_bits (globals past).id past;
  size = (globals past).size;
  count = (globals past).count;
  variable = flags.variable;
  relative = flags.relative;
  minimum = signed_datum (globals past).minimum;
  maximum = logical_maximum (globals past);
  spans = record { items = map (span_of (globals past).page) (usages past) };
}

-- the fields in order
unfoldable pub fields : List Item → List Field
fields [] = []
fields (item.Input flags ∷ past) = if flags.constant then fields past else fields past ++ field_of flags past ∷ []
fields (_ ∷ past) = fields past
