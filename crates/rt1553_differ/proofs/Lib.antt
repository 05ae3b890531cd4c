mod CodeLaws
mod NoneLaws
mod GroupLaws
mod Lists
