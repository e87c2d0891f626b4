use Rattle.tests_spaces.proofs.rows.shares_sixteen.Goals as goal

pub four_bytes-requires-2-clause-space : goal.four_bytes-requires-2-clause-space
four_bytes-requires-2-clause-space g c = c.put.ensures.spaces.stay c.new_one-space.result.0.0 c.shared_one-copy.ensures.stays
