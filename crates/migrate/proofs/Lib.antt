mod MoveLaws
mod SomeLaws
mod StoreLaws
mod RoundLaws
