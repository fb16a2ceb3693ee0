-- The lens of what is shown of a script.
use Rattle.std.specs.Prelude.{Option, None}
use Rattle.rh_pictures.specs.declared.lens.size.LensSize.{LensSize}
use Rattle.rh_desk.specs.declared.request.Shown.{Shown}
use Rattle.rh_desk.specs.declared.request.Shown.TheVariants.{Replies, Explanations, Map, Sheet}

-- the size of the lens through which areas are seen, if there is one
abbrev pub lens_size : Shown → Option LensSize
lens_size Replies = None
lens_size Explanations = None
lens_size (Map marked) = None
lens_size (Sheet form) = form.lens
