-- The column that a layout makes.
use Rattle.vx_model.specs.Column.{Column}
use Rattle.vx_model.specs.Null.{null_column}
use Rattle.vx_model.specs.Bool.{bool_column}
use Rattle.vx_model.specs.Records.{records_column}
use Rattle.vx_model.specs.VarBin.{varbin_column}
use Rattle.vx_model.specs.VarBinView.{views_column}
use Rattle.vx_model.specs.List.{list_column}
use Rattle.vx_model.specs.ListView.{listview_column}
use Rattle.vx_model.specs.FixedSizeList.{fixed_column}
use Rattle.vx_model.specs.Map.{map_column}
use Rattle.vx_model.specs.Struct.{struct_column}
use Rattle.vx_model.specs.Union.{union_column}
use Rattle.vx_model.specs.Extension.{extension_column}
use Rattle.vx_model.specs.Constant.{constant_column}
use Rattle.vx_model.specs.Dict.{dict_column}
use Rattle.vx_model.specs.Filter.{filter_column}
use Rattle.vx_column.specs.declared.array.Layout.{Layout}
use Rattle.vx_column.specs.declared.array.Layout.TheVariants.{Null, Bool, Primitive, Decimal, VarBin, VarBinView, List, ListView, FixedSizeList, Map, Struct, Union, Extension, Constant, Dict, Filter}

abbrev pub column_of : Layout → Column
column_of (Null n) = null_column n
column_of (Bool p) = bool_column p
column_of (Primitive p) = records_column p
column_of (Decimal p) = records_column p
column_of (VarBin p) = varbin_column p
column_of (VarBinView p) = views_column p
column_of (List p) = list_column p
column_of (ListView p) = listview_column p
column_of (FixedSizeList p) = fixed_column p
column_of (Map p) = map_column p
column_of (Struct p) = struct_column p
column_of (Union p) = union_column p
column_of (Extension p) = extension_column p
column_of (Constant p) = constant_column p
column_of (Dict p) = dict_column p
column_of (Filter p) = filter_column p
