-- Document 01, 'Refusal numbers' and 'Pilot grid', over the C interface: the answers of the mapper and of the
-- extractor as numbers, 0 for accepted; a refused call has the state as it went in.
use Rattle.std.specs.Prelude.{◌≡◌}
use Rattle.ground.specs.Refusal.{code}
use Rattle.ground.specs.Answer.{number_of}
use Rattle.grid.specs.declared.Moved.{Moved}
use Rattle.grid.specs.declared.ScatteredPilotMapper.{ScatteredPilotMapper}
use Rattle.grid.specs.declared.ScatteredPilotExtractor.{ScatteredPilotExtractor}
use Rattle.grid.specs.Calls.{map_state_of, extract_state_of}
use Rattle.saltkernel.specs.declared.symbols.SaltMapAnswer.{SaltMapAnswer}
use Rattle.saltkernel.specs.declared.symbols.SaltExtractAnswer.{SaltExtractAnswer}

-- the number and the state are what the answer says
pub record SaysMapped (r : SaltMapAnswer) (a : Moved ScatteredPilotMapper) : Type 0 where
  pub says_number : r.number ≡ code (number_of a.answer)
  pub says_mapper : r.mapper ≡ map_state_of a

pub record SaysExtracted (r : SaltExtractAnswer) (a : Moved ScatteredPilotExtractor) : Type 0 where
  pub says_number : r.number ≡ code (number_of a.answer)
  pub says_extractor : r.extractor ≡ extract_state_of a
