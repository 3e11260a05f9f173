-- What a leg's words tell, and the legs that are left of a passage.
use Rattle.std.specs.Prelude.{List}
use Rattle.words.specs.declared.LegLayout.TheVariants.{FourWords}
use Rattle.legs.specs.Reading.{stations_in, measure_in}
use Rattle.plain.specs.Plain.{NumberedLeg}
use Rattle.soundness.specs.InWords.{legs_along}
use Rattle.stations.specs.declared.book.WrittenLeg.{WrittenLeg}
use Rattle.stations.specs.declared.book.LegsAlong.{LegsAlong}

abbrev pub leg_of : WrittenLeg → NumberedLeg
leg_of leg = record { number = leg.number; stations = stations_in leg.place; measure = measure_in leg.measure }

abbrev pub legs_left : LegsAlong → List NumberedLeg
legs_left chain = legs_along FourWords chain.book.words.now chain.left chain.leg
