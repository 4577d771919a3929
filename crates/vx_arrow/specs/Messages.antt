-- What refusals say.
use Rattle.std.specs.Prelude.{ℕ, List, ◌++◌, codes, decimal}
use Rattle.vx_steps.specs.Messages.{broken_text}
use Rattle.vx_arrow.specs.declared.lacks.Lack.{Lack}
use Rattle.vx_arrow.specs.declared.lacks.Lack.TheVariants.{Kind, «Type», Counted, Values, Valid, Lengths, Multipliers}
use Rattle.vx_arrow.specs.declared.lacks.Lacking.{Lacking}
use Rattle.vx_arrow.specs.declared.need.Need.{Need}
use Rattle.vx_arrow.specs.declared.refusal.Refusal.{Refusal}
use Rattle.vx_arrow.specs.declared.refusal.Refusal.TheVariants as refusals

abbrev pub lack_text : Lack → List ℕ
lack_text Kind = codes "its kind has no number"
lack_text «Type» = codes "the type of its numbers has no number"
lack_text Counted = codes "its offset and length are too large"
lack_text Values = codes "its values are too short"
lack_text Valid = codes "its validity is too short"
lack_text Lengths = codes "its lengths are too short"
lack_text Multipliers = codes "its multipliers are too short"

-- the step, counted from 0, and what it lacks
abbrev pub lacking_text : Lacking → List ℕ
lacking_text l = codes "step " ++ decimal l.step ++ codes ": " ++ lack_text l.lack

abbrev pub need_text : Need → List ℕ
need_text n = codes "places " ++ decimal n.places ++ codes ", bytes of validity " ++ decimal n.valid

abbrev pub refusal_text : Refusal → List ℕ
refusal_text (refusals.Lacking lacking) = lacking_text lacking
refusal_text (refusals.Broken step cause) = broken_text step cause
refusal_text (refusals.Room need) = codes "too little room for " ++ need_text need
refusal_text refusals.NoMemory = codes "out of memory"
