pub mod RingLaws
mod PageWrites
mod EndLaws
pub mod PipeLaws
mod SeenLaws
mod TakeLaws
mod PutLaws
mod MadeLaws
