use Rattle.tests_spaces.proofs.rows.keeps_two_spaces_apart.Goals as goal

pub four_bytes-requires-2-clause-space : goal.four_bytes-requires-2-clause-space
four_bytes-requires-2-clause-space g c = c.put.ensures.spaces.stay c.new_one-second.result.0.0 c.map-2.ensures.stays
