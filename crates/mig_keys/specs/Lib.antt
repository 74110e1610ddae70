pub mod SameKeys
