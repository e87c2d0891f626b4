use Rattle.tests_spaces.proofs.rows.fill_sixteen.Goals as goal

pub loop-page-preserved : goal.loop-page-preserved
loop-page-preserved g c = record {
  ready = c.put.ensures.ready;
  spaces = record { stay = λ space is. c.put.ensures.spaces.stay space (c.map.ensures.spaces.stay space (c.loop-page.invariant.spaces.stay space is)) };
  stays = c.put.ensures.stays;
}
