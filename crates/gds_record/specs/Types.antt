-- The record types of the GDSII Stream format, release 6, under the headings of its description, and
-- the data types of their data.
use Rattle.std.specs.Prelude.{ℕ, ◌==◌, Option, Some, None, if◌then◌else◌}
use Rattle.gds_record.specs.declared.types.DataType.{DataType}
use Rattle.gds_record.specs.declared.types.DataType.TheVariants as data_type
use Rattle.gds_record.specs.declared.types.RecordType.{RecordType}
use Rattle.gds_record.specs.declared.types.RecordType.TheVariants as record_type

-- the fourth byte of a record
abbrev pub data_number_of : DataType → ℕ
data_number_of data_type.NoData = 0
data_number_of data_type.BitArray = 1
data_number_of data_type.Short = 2
data_number_of data_type.Long = 3
data_number_of data_type.Real = 5
data_number_of data_type.Text = 6

-- the third byte of a record
abbrev pub number_of : RecordType → ℕ
-- File header records
number_of record_type.Header = 0
number_of record_type.BgnLib = 1
number_of record_type.LibName = 2
number_of record_type.Units = 3
-- File tail record
number_of record_type.EndLib = 4
-- Structure header records
number_of record_type.BgnStr = 5
number_of record_type.StrName = 6
-- Structure tail record
number_of record_type.EndStr = 7
-- Element header records
number_of record_type.Boundary = 8
number_of record_type.Path = 9
number_of record_type.SRef = 10
number_of record_type.ARef = 11
number_of record_type.Text = 12
number_of record_type.Node = 21
number_of record_type.Box = 45
-- Element contents records
number_of record_type.Layer = 13
number_of record_type.DataType = 14
number_of record_type.Width = 15
number_of record_type.Xy = 16
number_of record_type.SName = 18
number_of record_type.ColRow = 19
number_of record_type.TextType = 22
number_of record_type.Presentation = 23
number_of record_type.StringText = 25
number_of record_type.STrans = 26
number_of record_type.Mag = 27
number_of record_type.Angle = 28
number_of record_type.PathType = 33
number_of record_type.PropAttr = 43
number_of record_type.PropValue = 44
-- Element tail record
number_of record_type.EndEl = 17

abbrev pub data_type_of : RecordType → DataType
data_type_of record_type.Header = data_type.Short
data_type_of record_type.BgnLib = data_type.Short
data_type_of record_type.LibName = data_type.Text
data_type_of record_type.Units = data_type.Real
data_type_of record_type.EndLib = data_type.NoData
data_type_of record_type.BgnStr = data_type.Short
data_type_of record_type.StrName = data_type.Text
data_type_of record_type.EndStr = data_type.NoData
data_type_of record_type.Boundary = data_type.NoData
data_type_of record_type.Path = data_type.NoData
data_type_of record_type.SRef = data_type.NoData
data_type_of record_type.ARef = data_type.NoData
data_type_of record_type.Text = data_type.NoData
data_type_of record_type.Node = data_type.NoData
data_type_of record_type.Box = data_type.NoData
data_type_of record_type.Layer = data_type.Short
data_type_of record_type.DataType = data_type.Short
data_type_of record_type.Width = data_type.Long
data_type_of record_type.Xy = data_type.Long
data_type_of record_type.SName = data_type.Text
data_type_of record_type.ColRow = data_type.Short
data_type_of record_type.TextType = data_type.Short
data_type_of record_type.Presentation = data_type.BitArray
data_type_of record_type.StringText = data_type.Text
data_type_of record_type.STrans = data_type.BitArray
data_type_of record_type.Mag = data_type.Real
data_type_of record_type.Angle = data_type.Real
data_type_of record_type.PathType = data_type.Short
data_type_of record_type.PropAttr = data_type.Short
data_type_of record_type.PropValue = data_type.Text
data_type_of record_type.EndEl = data_type.NoData

-- the type of the table that has a number
abbrev pub type_numbered : ℕ → Option RecordType
type_numbered number =
    if number == 0 then Some record_type.Header else
    if number == 1 then Some record_type.BgnLib else
    if number == 2 then Some record_type.LibName else
    if number == 3 then Some record_type.Units else
    if number == 4 then Some record_type.EndLib else
    if number == 5 then Some record_type.BgnStr else
    if number == 6 then Some record_type.StrName else
    if number == 7 then Some record_type.EndStr else
    if number == 8 then Some record_type.Boundary else
    if number == 9 then Some record_type.Path else
    if number == 10 then Some record_type.SRef else
    if number == 11 then Some record_type.ARef else
    if number == 12 then Some record_type.Text else
    if number == 13 then Some record_type.Layer else
    if number == 14 then Some record_type.DataType else
    if number == 15 then Some record_type.Width else
    if number == 16 then Some record_type.Xy else
    if number == 17 then Some record_type.EndEl else
    if number == 18 then Some record_type.SName else
    if number == 19 then Some record_type.ColRow else
    if number == 21 then Some record_type.Node else
    if number == 22 then Some record_type.TextType else
    if number == 23 then Some record_type.Presentation else
    if number == 25 then Some record_type.StringText else
    if number == 26 then Some record_type.STrans else
    if number == 27 then Some record_type.Mag else
    if number == 28 then Some record_type.Angle else
    if number == 33 then Some record_type.PathType else
    if number == 43 then Some record_type.PropAttr else
    if number == 44 then Some record_type.PropValue else
    if number == 45 then Some record_type.Box else
    None
