mod CallerLaws
mod PeopleLaws
