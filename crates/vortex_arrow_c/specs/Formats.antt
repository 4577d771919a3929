-- The numbers of what doesn't fit a layout.
use Rattle.std.specs.Prelude.{ℕ}
use Rattle.vx_arrow_formats.specs.declared.shape.Misfit.{Misfit}
use Rattle.vx_arrow_formats.specs.declared.shape.Misfit.TheVariants as misfits

abbrev pub misfit_code : Misfit → ℕ
misfit_code misfits.Length = 1
misfit_code misfits.Buffers = 2
misfit_code misfits.Children = 3
misfit_code misfits.Validity = 4
misfit_code misfits.Dictionary = 5
misfit_code misfits.Rows = 6
