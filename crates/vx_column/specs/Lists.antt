-- What a `Lists` stands for.
use Rattle.vx_model.specs.FixedSizeList.{fixed_spans}
use Rattle.vx_model.specs.List.{list_spans}
use Rattle.vx_model.specs.ListView.{listview_spans}
use Rattle.vx_model.specs.Lists.{ListsParts}
use Rattle.vx_model.specs.Map.{map_spans}
use Rattle.vx_column.specs.declared.lists.Lists.{Lists}
use Rattle.vx_column.specs.declared.lists.Lists.TheVariants.{List, View, Fixed, Map}

abbrev pub spans_of : Lists → ListsParts
spans_of (List a) = list_spans a.now
spans_of (View a) = listview_spans a.now
spans_of (Fixed a) = fixed_spans a.now
spans_of (Map a) = map_spans a.now
